-- What an octet of a line is: a hexadecimal digit of either case, a blank, `-`, or anything else.
use Rattle.std.specs.Prelude.{ℕ, ◌+◌, ◌-◌, Bool, ◌&&◌, ◌||◌, cond, eqb, leb}
use Prim.Native.Char.{Char, code}
use Rattle.typed.specs.declared.Sign.{Sign}
use Rattle.typed.specs.declared.Sign.TheVariants.{Hex, Space, Dash, Stray}

abbrev pub between : Char → Char → ℕ → Bool
between a b c = leb (code a) c && leb c (code b)

unfoldable pub is_blank : ℕ → Bool
is_blank c = eqb c (code " ") || (eqb c (code "\t") || eqb c (code "\r"))

unfoldable pub sign_of : ℕ → Sign
sign_of c =
    cond (between "0" "9" c) (Hex (c - code "0"))
    (cond (between "a" "f" c) (Hex (c - code "a" + 10))
    (cond (between "A" "F" c) (Hex (c - code "A" + 10))
    (cond (is_blank c) Space
    (cond (eqb c (code "-")) Dash Stray))))

-- a number tells a sign: a digit's value, or 16 and more where it is none
unfoldable pub decodes : Sign → ℕ → Bool
decodes (Hex d) v = eqb v d
decodes Space v = leb 16 v
decodes Dash v = leb 16 v
decodes Stray v = leb 16 v
