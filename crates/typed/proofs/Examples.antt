-- Lines and what they stand for, computed: one of each kind, and lines that are nearly one.
use Prim.Native.Nat.{ℕ}
use Prim.Native.String.{String}
use mathlib.Core.Path.{◌≡◌, refl}
use mathlib.Core.List.{List, [], ◌∷◌, map}
use Rattle.octets.specs.Letters.{letters}
use Rattle.typed.specs.declared.Form.{Form}
use Rattle.typed.specs.declared.Form.TheVariants.{Blank, Digit, Lead, Number, Numbered, Octets, Half, Refused, Other}
use Rattle.typed.specs.Signs.{is_blank, sign_of}
use Rattle.typed.specs.Forms.{by_sign, paired, form_after, completed_by, completed, fresh, typed, typed_all}

record Example : Type 0 where
  line : String
  form : Form
  octets : List ℕ

abbrev example : String → Form → List ℕ → Example
example l f o = record { line = l; form = f; octets = o }

abbrev read : Example → Example
read e =
    let t = typed_all fresh (letters e.line) in
    example e.line t.form t.octets

abbrev examples : List Example
examples =
    -- nothing
    example "" Blank []
    ∷ example " \t\r" Blank []
    ∷ example "# 02" Blank []
    -- octets
    ∷ example "02" (Number 2) (0x02 ∷ [])
    ∷ example "02700004" Octets (0x02 ∷ 0x70 ∷ 0x00 ∷ 0x04 ∷ [])
    ∷ example "\t02 aB  Fe\r" Octets (0x02 ∷ 0xAB ∷ 0xFE ∷ [])
    ∷ example " 02 # x" (Numbered 2) (0x02 ∷ [])
    ∷ example "0 02" Octets (0x02 ∷ [])
    ∷ example "0\t 0203 04 # 05" Octets (0x02 ∷ 0x03 ∷ 0x04 ∷ [])
    ∷ example "00 02" Octets (0x00 ∷ 0x02 ∷ [])
    -- a number and `-`
    ∷ example "0 -" (Refused 0) []
    ∷ example "00 -" (Refused 0) (0x00 ∷ [])
    ∷ example "  7\t- # x" (Refused 7) []
    ∷ example "07 -" (Refused 7) (0x07 ∷ [])
    ∷ example "42  - \r" (Refused 42) (0x42 ∷ [])
    -- anything else
    ∷ example "0" (Digit 0) []
    ∷ example "0 # 02" (Lead 0) []
    ∷ example "f " Other []
    ∷ example "0 2" (Half 2) []
    ∷ example "02 7" (Half 7) (0x02 ∷ [])
    ∷ example "02 7 0" Other (0x02 ∷ [])
    ∷ example "0 0 02" Other []
    ∷ example "5 02" Other []
    ∷ example "027g" Other (0x02 ∷ [])
    ∷ example "-" Other []
    ∷ example "-02" Other []
    ∷ example "12-" Other (0x12 ∷ [])
    ∷ example "a -" Other []
    ∷ example "1a -" Other (0x1A ∷ [])
    ∷ example "123 -" Other (0x12 ∷ [])
    ∷ example "0 12 -" Other (0x12 ∷ [])
    ∷ example "5 - -" Other []
    ∷ example "0x02" Other []
    ∷ example "02\0" Other (0x02 ∷ [])
    ∷ []

pub read_so : map read examples ≡ examples
unfolding letters is_blank sign_of by_sign paired form_after completed_by completed typed typed_all
read_so = refl
