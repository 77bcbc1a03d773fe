-- What is printed on a page one after another is printed as one, and takes as much room.
use Prim.Native.Nat.{ℕ, ◌+◌, ◌≤◌}
use native.Mathlib.Omega.{arith}
use mathlib.Core.Path.{◌≡◌, refl, sym, ap, ◌∙◌}
use mathlib.Core.List.{List, [], ◌++◌}
use lib.ListN.{length, length-append}
use Rattle.meaning.specs.Octets.{splice}
use Rattle.page.specs.declared.Page.{Page}
use Rattle.page.specs.Printing.{Prints, HasRoom}
use Rattle.meaning.proofs.Lists.{splice-length}
use Rattle.octets.proofs.Splices.{splice-nil, then}

module _ {p q : Page} {a : List ℕ} where
  -- what is printed takes so much of the room, and leaves the rest
  pub room_behind : (m n : ℕ) → HasRoom p m → Prints p a q → length a + n ≤ m → HasRoom q n
  room_behind m n t w h = omega (arith, h, t, w.place, w.long)

  -- one behind another is both as one
  pub prints_both : {r : Page} {b : List ℕ} → HasRoom p (length a) → Prints p a q → Prints q b r → Prints p (a ++ b) r
  prints_both {b = b} t v w = record {
    place = omega (arith, length-append a b, v.place, w.place);
    octets = then p.room.now a b p.at q.at t v.place v.octets w.octets;
    room = w.room ∙ v.room;
    long = w.long ∙ v.long;
  }

-- nothing printed
pub prints_none : (p : Page) → Prints p [] p
prints_none p = record { place = omega arith; octets = sym (splice-nil p.room.now p.at); room = refl; long = refl }
