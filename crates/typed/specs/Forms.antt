-- What a line stands for so far, and how each further octet changes it. Whole octets are kept as they are read.
use Rattle.std.specs.Prelude.{ℕ, ◌+◌, ◌*◌, ◌≤◌, ◌<◌, ◌≡◌, Bool, true, false, ◌&&◌, ◌||◌, cond, List, [], ◌∷◌, ◌++◌, length, take, eqb, ltb}
use Prim.Native.Char.{code}
use Rattle.typed.specs.declared.Sign.{Sign}
use Rattle.typed.specs.declared.Sign.TheVariants.{Hex, Space, Dash, Stray}
use Rattle.typed.specs.declared.Form.{Form}
use Rattle.typed.specs.declared.Form.TheVariants.{Blank, Digit, Lead, Number, Numbered, Octets, Half, Refused, Other}
use Rattle.typed.specs.declared.Line.{Line}
use Rattle.typed.specs.Signs.{sign_of}

-- ---- forms

-- by what the octet is: a digit, a blank, `-`; with anything else a line stands for nothing
unfoldable pub by_sign : Sign → (ℕ → Form) → Form → Form → Form
by_sign (Hex d) digit space dash = digit d
by_sign Space digit space dash = space
by_sign Dash digit space dash = dash
by_sign Stray digit space dash = Other

-- two digits at a line's start: an octet, and a number too if both are decimal
unfoldable pub paired : ℕ → ℕ → Form
paired h d = cond (ltb h 10 && ltb d 10) (Number (10 * h + d)) Octets

unfoldable pub form_after : Form → Sign → Form
form_after Blank c = by_sign c Digit Blank Other
form_after (Digit h) c = by_sign c (paired h) (cond (ltb h 10) (Lead h) Other) Other
form_after (Lead n) c = by_sign c (λ d. cond (eqb n 0) (Half d) Other) (Lead n) (Refused n)
form_after (Number n) c = by_sign c Half (Numbered n) Other
form_after (Numbered n) c = by_sign c Half (Numbered n) (Refused n)
form_after Octets c = by_sign c Half Octets Other
form_after (Half h) c = by_sign c (λ d. Octets) Other Other
form_after (Refused n) c = by_sign c (λ d. Other) (Refused n) Other
form_after Other c = Other

-- ---- octets

-- the octet that a digit completes, if any
unfoldable pub completed_by : Form → ℕ → List ℕ
completed_by Blank d = []
completed_by (Digit h) d = (h * 16 + d) ∷ []
completed_by (Lead n) d = []
completed_by (Number n) d = []
completed_by (Numbered n) d = []
completed_by Octets d = []
completed_by (Half h) d = (h * 16 + d) ∷ []
completed_by (Refused n) d = []
completed_by Other d = []

unfoldable pub completed : Form → Sign → List ℕ
completed f (Hex d) = completed_by f d
completed f Space = []
completed f Dash = []
completed f Stray = []

-- how many are kept: one more than a message may have, so that a longer one is refused for its length all the same
abbrev pub kept_most : ℕ
kept_most = 4097

-- ---- a line

-- what it stands for, whether a comment has begun, the octets that are kept
pub record Typed : Type 0 where
  pub form : Form
  pub comment : Bool
  pub octets : List ℕ

abbrev pub typing : Form → Bool → List ℕ → Typed
typing f c s = record { form = f; comment = c; octets = s }

abbrev pub fresh : Typed
fresh = typing Blank false []

-- from `#` on nothing counts
unfoldable pub typed : Typed → ℕ → Typed
typed t c =
    cond (t.comment || eqb c (code "#"))
    (typing t.form true t.octets)
    (typing (form_after t.form (sign_of c)) false (take kept_most (t.octets ++ completed t.form (sign_of c))))

unfoldable pub typed_all : Typed → List ℕ → Typed
typed_all t [] = t
typed_all t (c ∷ s) = typed_all (typed t c) s

-- ---- as the code keeps it

-- the octets stand at the front of a room
abbrev pub typed_in : List ℕ → Line → Typed
typed_in room l = typing l.form l.comment (take l.count room)

-- digits and numbers are as small as digits spell them
abbrev pub Small : Form → Type 0
Small Blank = Unit {0}
Small (Digit h) = h < 16
Small (Lead n) = n < 10
Small (Number n) = n < 100
Small (Numbered n) = n < 100
Small Octets = Unit {0}
Small (Half h) = h < 16
Small (Refused n) = n < 100
Small Other = Unit {0}

pub record Keeps (room : List ℕ) (l : Line) : Type 0 where
  pub long : length room ≡ kept_most
  pub within : l.count ≤ kept_most
  pub small : Small l.form

-- octets kept behind those that are: how many there are then, and the room
pub record Stores (room : List ℕ) (count : ℕ) (more : List ℕ) (r : ℕ) (room' : List ℕ) : Type 0 where
  pub within : r ≤ kept_most
  pub octets_are : take r room' ≡ take kept_most (take count room ++ more)

-- an octet taken
pub record Takes (room : List ℕ) (l : Line) (c : ℕ) (r : Line) (room' : List ℕ) : Type 0 where
  pub keeps : Keeps room' r
  pub typed_is : typed_in room' r ≡ typed (typed_in room l) c

-- whatever a room holds, nothing has been taken
pub record Starts (r : Line) : Type 0 where
  pub typed_is : (room : List ℕ) → typed_in room r ≡ fresh
  pub keeps : (room : List ℕ) → length room ≡ kept_most → Keeps room r
