-- Octets after a command's operations, and after an acknowledgement's 04, are ignored.
use Prim.Native.Nat.{ℕ, suc, ◌+◌, ◌≤◌, ◌<◌}
use native.Mathlib.Omega.{arith}
use mathlib.Core.Path.{◌≡◌, refl, sym, ◌∙◌}
use mathlib.Core.Bool.{Bool, true, false}
use mathlib.Core.List.{List, [], ◌∷◌, ◌++◌}
use lib.ListN.{length, length-append, get_or-append}
use borrow.Author.Tests.{le-leb}
use Rattle.meaning.specs.Octets.{octet, at16, implies}
use Rattle.meaning.specs.Checks.{Checks, passed, check, first_failed}
use Rattle.meaning.specs.Memory.{waiting}
use Rattle.meaning.specs.Profile.{sound_in}
use Rattle.meaning.specs.Operation.{break_of}
use Rattle.meaning.specs.Calls.{done, call, is_command, is_acknowledgement, length_field, operations, ops_of, length_right, acknowledged, handled, fits, message_checks, message}
use Rattle.meaning.proofs.Lists.{part-append}
use Rattle.meaning.proofs.Checked.{unlocated}
use Rattle.meaning.proofs.Accepted.{right-length, length-right}

octet-append : (s t : List ℕ) (i : ℕ) → i < length s → octet (s ++ t) i ≡ octet s i
octet-append s t i h = get_or-append s t 0 i h

field_longer : (s t : List ℕ) → 3 + length_field s ≤ length s → length_field (s ++ t) ≡ length_field s
unfolding length_field at16
field_longer s t i = rw (octet-append s t 1 (omega arith), octet-append s t 2 (omega arith))

operations_longer : (s t : List ℕ) → 3 + length_field s ≤ length s → operations (s ++ t) ≡ operations s
unfolding operations
operations_longer s t i = rw (field_longer s t i) (part-append s t 3 (length_field s) i)

pub trailing_ignored : (p : ℕ) (m s t room : List ℕ) → length_right s ≡ true → length (s ++ t) ≤ 2048 → message p m (s ++ t) room ≡ message p m s room
unfolding message message_checks handled ops_of is_command is_acknowledgement
trailing_ignored p m s t room r h =
    let o = length-right s r in
    let n : length (s ++ t) ≡ length s + length t = length-append s t in
    let l = field_longer s t o.1 in
    let q : length_right (s ++ t) ≡ true = right-length (s ++ t) (rw l o.0) (rw l (omega (arith, o.1, n))) in
    rw (
      octet-append s t 0 (omega (arith, o.1)),
      operations_longer s t o.1,
      q,
      r,
      le-leb 1 (length (s ++ t)) (omega (arith, o.1, n)),
      le-leb (length (s ++ t)) 2048 h,
      le-leb 1 (length s) (omega (arith, o.1)),
      le-leb (length s) 2048 (omega (arith, n)),
    )

-- a check that passes behind one that may not
passed_behind : (n j : ℕ) (b : Bool) (cs : Checks) → first_failed (check n b (check j true cs)) ≡ first_failed (check n b cs)
unfolding first_failed
passed_behind n j true cs = refl
passed_behind n j false cs = refl

-- what comes of an acknowledgement, whatever stands behind the 04
acknowledgement_is : (p : ℕ) (m t room : List ℕ) → length (4 ∷ t) ≤ 2048
    → message p m (4 ∷ t) room
    ≡ call (check 1 (sound_in p m) (check 8 (waiting m) (check 7 (fits (length room) (acknowledged m)) passed))) (done (acknowledged m).reply (acknowledged m).memory room) m room
unfolding message message_checks call handled is_command is_acknowledgement implies
acknowledgement_is p m t room h =
    let s = sound_in p m in
    rw (le-leb (suc (length t)) 2048 h, le-leb 1 (suc (length t)) (omega arith))
    (rw (passed_behind 1 2 s _, passed_behind 1 3 s _, passed_behind 1 4 s _, passed_behind 1 5 s _, passed_behind 1 6 s _)
    (unlocated (break_of p (operations (4 ∷ t))) (sound_in p m) (waiting m) (fits (length room) (acknowledged m)) (acknowledged m).reply (acknowledged m).memory m room))

pub acknowledgement-alone : (p : ℕ) (m t room : List ℕ) → length (4 ∷ t) ≤ 2048 → message p m (4 ∷ t) room ≡ message p m (4 ∷ []) room
acknowledgement-alone p m t room h = acknowledgement_is p m t room h ∙ sym (acknowledgement_is p m [] room (omega arith))
