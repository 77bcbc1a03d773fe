-- Demand 1 and the numbers of RULES 15: which number each call returns when, in the orders of RULES 15.16 to 15.19. A number comes before
-- those that are named after it whatever their own tests say.
use Prim.Native.Nat.{ℕ, zero, suc, ◌+◌, ◌*◌, ◌≤◌, ◌<◌}
use native.Mathlib.Omega.{arith}
use mathlib.Core.Path.{◌≡◌, refl, ap}
use mathlib.Core.Logic.{◌≢◌, ◌⊎◌, inl, inr}
use mathlib.Core.Bool.{Bool, true, false, ◌||◌, not}
use mathlib.Core.Option.{none, some}
use mathlib.Core.List.{List, [], append-nil}
use lib.ListN.{length}
use lib.Dec.{leb}
use borrow.Author.Tests.{leb-true, le-leb, lt-leb, eq-eqb, ne_eqb}
use Rattle.meaning.specs.Octets.{octet, at16, every, implies, nonempty}
use Rattle.meaning.specs.Checks.{Checks, passed, check, first_failed}
use Rattle.meaning.specs.Table.{entry_count, memory_length}
use Rattle.meaning.specs.Memory.{pending, waiting}
use Rattle.meaning.specs.Profile.{sound_in}
use Rattle.meaning.specs.Operation.{Op, parse, is_some, break_of}
use Rattle.meaning.specs.Calls.{Outcome, number_only, is_command, is_acknowledgement, length_field, operations, length_right, records, carried_out, acknowledged, handled, fits, message_checks, located, message, local_permitted, local_checks, local_value, reports, build_checks, build, expiry_checks, expiry, make_fresh}
use Rattle.meaning.proofs.Tests.{every_at, first_fails, first-after}
use Rattle.meaning.proofs.Checked.{call-refused}
use Rattle.meaning.proofs.Records.{Fits, fits_opened}
use Rattle.meaning.proofs.Accepted.{ops_parsed}

-- nothing pending, nothing to report
no_reports : (p : ℕ) (m : List ℕ) (k : ℕ) → ((j : ℕ) → j < k → pending m j ≡ false) → nonempty (reports p m k) ≡ false
unfolding reports
no_reports p m zero q = refl
no_reports p m (suc k) q =
    rw (q k (omega arith), append-nil (reports p m k)) (no_reports p m k (λ j h. q j (omega arith)))

-- ---- a message (RULES 15.16)

-- what passed before type and contents are looked at
pub record Taken (p : ℕ) (m s : List ℕ) : Type 0 where
  pub is_sound : sound_in p m ≡ true
  pub nonzero : 1 ≤ length s
  pub short : length s ≤ 2048

-- type 01, and L there, not 0 and not past the end
pub record Measured (p : ℕ) (m s : List ℕ) : Type 0 where
  pub taken : Taken p m s
  pub type : octet s 0 ≡ 1
  pub there : 3 ≤ length s
  pub not_zero : 1 ≤ octet s 1 * 256 + octet s 2
  pub inside : 3 + (octet s 1 * 256 + octet s 2) ≤ length s

-- a wrong L (RULES 15.6)
abbrev pub WrongLength : List ℕ → Type 0
WrongLength s = (length s < 3) ⊎ ((octet s 1 * 256 + octet s 2 ≡ 0) ⊎ (length s < 3 + (octet s 1 * 256 + octet s 2)))

length_wrong : (s : List ℕ) → WrongLength s → length_right s ≡ false
unfolding length_right length_field at16
length_wrong s d = go (length_right s) refl d
  where
    go : (b : Bool) → length_right s ≡ b → WrongLength s → length_right s ≡ false
    go false e w = e
    go true e (inl w) = absurd (omega (arith, leb-true 3 (length s) (every_at _ 0 e)))
    go true e (inr (inl w)) = absurd (omega (arith, leb-true 1 (octet s 1 * 256 + octet s 2) (every_at _ 1 e)))
    go true e (inr (inr w)) = absurd (omega (arith, leb-true (3 + (octet s 1 * 256 + octet s 2)) (length s) (every_at _ 2 e)))

pub length-right : (p : ℕ) (m s : List ℕ) → Measured p m s → length_right s ≡ true
unfolding length_right length_field at16 every
length-right p m s l = simp (le-leb 3 (length s) l.there, le-leb 1 (octet s 1 * 256 + octet s 2) l.not_zero, le-leb (3 + (octet s 1 * 256 + octet s 2)) (length s) l.inside)

-- a reply that does not fit
not_fitting : (p n : ℕ) (m : List ℕ) (os : List Op) → (Fits p n (records p m os) → ⊥) → fits n (carried_out p m os) ≡ false
not_fitting p n m os no-fit = go (fits n (carried_out p m os)) refl
  where
    go : (b : Bool) → fits n (carried_out p m os) ≡ b → fits n (carried_out p m os) ≡ false
    go true e = absurd (no-fit (fits_opened p n m os e))
    go false e = e

module _ (p : ℕ) (m s room : List ℕ) where
  -- a refusal with its position; at each number but 6 that is 0, so nothing is told but the number
  abbrev refusal : ℕ → Outcome
  refusal n = located (break_of p (operations s)) (number_only n m room)

  first_is : (n : ℕ) → first_failed (message_checks p m s (length room)) ≡ suc n → message p m s room ≡ refusal (suc n)
  unfolding message
  first_is n e = ap (located (break_of p (operations s))) (call-refused (message_checks p m s (length room)) _ m room n e)

  pub message_1 : sound_in p m ≡ false → message p m s room ≡ number_only 1 m room
  unfolding message_checks first_failed
  message_1 e = first_is 0 (simp e)

  pub message_2 : sound_in p m ≡ true → length s ≡ 0 → message p m s room ≡ number_only 2 m room
  unfolding message_checks first_failed
  message_2 e h = first_is 1 (simp (e, h))

  pub message_3 : sound_in p m ≡ true → 2048 < length s → message p m s room ≡ number_only 3 m room
  unfolding message_checks first_failed
  message_3 e h = first_is 2 (simp (e, le-leb 1 (length s) (omega arith), lt-leb (length s) 2048 h))

  -- the checks that are left once a message is taken
  abbrev rest : Checks
  rest =
      check 4 (is_command s || is_acknowledgement s)
      (check 5 (implies (is_command s) (length_right s))
      (check 6 (implies (is_command s) (is_some (parse p (operations s))))
      (check 8 (implies (is_acknowledgement s) (waiting m))
      (check 7 (fits (length room) (handled p m s)) passed))))

  rest_is_lem : (n : ℕ) → Taken p m s → first_failed rest ≡ suc n → message p m s room ≡ refusal (suc n)
  unfolding message_checks first_failed
  rest_is_lem n t e = first_is n (simp (t.is_sound, le-leb 1 (length s) t.nonzero, le-leb (length s) 2048 t.short) e)

  pub message_4 : Taken p m s → octet s 0 ≢ 1 → octet s 0 ≢ 4 → message p m s room ≡ number_only 4 m room
  unfolding first_failed is_command is_acknowledgement
  message_4 t a b = rest_is_lem 3 t (simp (ne_eqb (octet s 0) 1 a, ne_eqb (octet s 0) 4 b))

  pub message_5 : Taken p m s → octet s 0 ≡ 1 → WrongLength s → message p m s room ≡ number_only 5 m room
  unfolding first_failed is_command implies
  message_5 t a d = rest_is_lem 4 t (simp (eq-eqb (octet s 0) 1 a, length_wrong s d))

  -- where it breaks is told too
  pub message_6 : Measured p m s → parse p (operations s) ≡ none → message p m s room ≡ located (break_of p (operations s)) (number_only 6 m room)
  unfolding first_failed is_command implies
  message_6 l e = rest_is_lem 5 l.taken (simp (eq-eqb (octet s 0) 1 l.type, length-right p m s l, e))

  pub message_7 : (os : List Op) → Measured p m s → parse p (operations s) ≡ some os → (Fits p (length room) (records p m os) → ⊥) → message p m s room ≡ number_only 7 m room
  unfolding first_failed is_command is_acknowledgement implies handled
  message_7 os l e no-fit =
      rest_is_lem 6 l.taken
      (simp (
        l.type,
        length-right p m s l,
        e,
        ops_parsed p s os e,
        not_fitting p (length room) m os no-fit,
      ))

  pub message_8 : Taken p m s → octet s 0 ≡ 4 → waiting m ≡ false → message p m s room ≡ number_only 8 m room
  unfolding first_failed is_command is_acknowledgement implies
  message_8 t a w = rest_is_lem 7 t (simp (a, w))

  -- an acknowledgement whose reply has no room
  pub message_7_acknowledged : Taken p m s → octet s 0 ≡ 4 → waiting m ≡ true → length room ≡ 0 → message p m s room ≡ number_only 7 m room
  unfolding first_failed is_command is_acknowledgement implies handled acknowledged fits every
  message_7_acknowledged t a w h = rest_is_lem 6 t (simp (a, w, h))

-- ---- building (RULES 15.17)

module _ (p : ℕ) (m room : List ℕ) where
  build_is : (n : ℕ) → first_failed (build_checks p m (length room)) ≡ suc n → build p m room ≡ number_only (suc n) m room
  unfolding build
  build_is n e = call-refused (build_checks p m (length room)) _ m room n e

  pub build_1 : sound_in p m ≡ false → build p m room ≡ number_only 1 m room
  unfolding build_checks first_failed
  build_1 e = build_is 0 (simp e)

  pub build_11 : sound_in p m ≡ true → length room < 1600 → build p m room ≡ number_only 11 m room
  unfolding build_checks
  build_11 e h =
      let later = check 10 (not (waiting m)) (check 9 (nonempty (reports p m entry_count)) passed) in
      build_is 10 (first-after 1 (sound_in p m) _ 11 e (first_fails 11 (leb 1600 (length room)) later (lt-leb 1600 (length room) h)))

  pub build_10 : sound_in p m ≡ true → 1600 ≤ length room → waiting m ≡ true → build p m room ≡ number_only 10 m room
  unfolding build_checks first_failed
  build_10 e h w = build_is 9 (simp (e, le-leb 1600 (length room) h, w))

  pub build_9 : sound_in p m ≡ true → 1600 ≤ length room → waiting m ≡ false → ((k : ℕ) → k < entry_count → pending m k ≡ false) → build p m room ≡ number_only 9 m room
  unfolding build_checks first_failed
  build_9 e h w q = build_is 8 (simp (e, le-leb 1600 (length room) h, w, no_reports p m entry_count q))

-- ---- a local value (RULES 15.18), an expiry (RULES 15.19), making fresh (RULES 6.4)

pub local_value_1 : (p : ℕ) (m : List ℕ) (n : ℕ) (v : List ℕ) → sound_in p m ≡ false → local_value p m n v ≡ number_only 1 m []
unfolding local_value local_checks first_failed
local_value_1 p m n v e = call-refused (local_checks p m n v) _ m [] 0 (simp e)

pub local_value_12 : (p : ℕ) (m : List ℕ) (n : ℕ) (v : List ℕ) → sound_in p m ≡ true → local_permitted n v ≡ false → local_value p m n v ≡ number_only 12 m []
unfolding local_value local_checks first_failed
local_value_12 p m n v e q = call-refused (local_checks p m n v) _ m [] 11 (simp (e, q))

pub expiry_1 : (p : ℕ) (m : List ℕ) → sound_in p m ≡ false → expiry p m ≡ number_only 1 m []
unfolding expiry expiry_checks first_failed
expiry_1 p m e = call-refused (expiry_checks p m) _ m [] 0 (simp e)

pub expiry_8 : (p : ℕ) (m : List ℕ) → sound_in p m ≡ true → waiting m ≡ false → expiry p m ≡ number_only 8 m []
unfolding expiry expiry_checks first_failed
expiry_8 p m e w = call-refused (expiry_checks p m) _ m [] 7 (simp (e, w))

pub make_fresh_1 : (m : List ℕ) → length m ≢ memory_length → make_fresh m ≡ number_only 1 m []
unfolding make_fresh first_failed
make_fresh_1 m h = call-refused _ _ m [] 0 (simp (ne_eqb _ _ h))
