-- What the profile decides, each by cases on whether it is Release 16: names, codes, the value on the wire, the bounds of memory.
use Prim.Native.Nat.{ℕ, ◌+◌, ◌≤◌}
use native.Mathlib.Omega.{arith}
use mathlib.Core.Path.{◌≡◌, refl, sym, ap, ◌∙◌}
use mathlib.Core.Bool.{Bool, true, false, cond, false≢true}
use mathlib.Core.List.{List}
use lib.ListN.{length, length-append, length-replicate}
use lib.Seq.{drop_at}
use lib.Dec.{leb}
use borrow.Author.Tests.{leb-true, leb-false, le-leb, lt-leb}
use Rattle.meaning.specs.Octets.{zeros, implies}
use Rattle.meaning.specs.Checks.{when_passed}
use Rattle.meaning.specs.Memory.{sound}
use Rattle.meaning.specs.Profile.{is_release16, has_code, spared, on_wire, in_memory, cause_absent, bounded, sound_in}
use Rattle.meaning.specs.Operation.{malformed, shape_of, shape}
use Rattle.meaning.proofs.Tests.{and_left, and_right, and_both, implies_of, implied, not-true}

-- ---- codes

-- a profile has every code up to that of unsubscribe, and only Release 18 has one above it
pub low_code : (p c : ℕ) → c ≤ 5 → has_code p c ≡ true
unfolding has_code
low_code p c h = implies_of _ _ (λ e. le-leb c 5 h)

pub every_code : (p c : ℕ) → is_release16 p ≡ false → has_code p c ≡ true
unfolding has_code implies
every_code p c e = rw e

pub high_code : (p c : ℕ) → has_code p c ≡ true → 6 ≤ c → is_release16 p ≡ false
unfolding has_code
high_code p c e h = not-true (is_release16 p) (λ r. omega (arith, leb-true c 5 (implied _ _ e r)))

pub no_code : (p c : ℕ) → has_code p c ≡ false → (is_release16 p ≡ true) × (6 ≤ c)
unfolding has_code implies
no_code p c e = go (is_release16 p) refl (leb c 5) refl e
  where
    go : (r : Bool) → is_release16 p ≡ r → (l : Bool) → leb c 5 ≡ l → implies r l ≡ false → (is_release16 p ≡ true) × (6 ≤ c)
    go true f true h e = absurd (false≢true (sym e))
    go true f false h e = (f, leb-false c 5 h)
    go false f l h e = absurd (false≢true (sym e))

pub shape_none : (p c : ℕ) → is_release16 p ≡ true → 6 ≤ c → shape p c ≡ malformed
unfolding shape has_code implies
shape_none p c r h = rw (r, lt-leb c 5 (omega arith))

pub shape_has : (p c : ℕ) → has_code p c ≡ true → shape p c ≡ shape_of c
unfolding shape
shape_has p c e = rw e

-- ---- a value on the wire, and in memory

pub wire_memory : (p k : ℕ) (v : List ℕ) → on_wire p k (in_memory p k v) ≡ v
unfolding on_wire in_memory
wire_memory p k v = drop_at (zeros (spared p k)) v (spared p k) (length-replicate (spared p k) 0)

pub memory-length : (p k : ℕ) (v : List ℕ) → length (in_memory p k v) ≡ spared p k + length v
unfolding in_memory
memory-length p k v = length-append (zeros (spared p k)) v ∙ ap (λ (n : ℕ). n + length v) (length-replicate (spared p k) 0)

-- ---- the cause of an absent value is one

pub absent_fails : (p : ℕ) {A : Type 0} (done : A) (f : ℕ → A) → when_passed (cause_absent p) done f ≡ f (cause_absent p)
unfolding cause_absent when_passed
absent_fails p done f = go (is_release16 p)
  where
    go : (b : Bool) → when_passed (cond b 0x6F 0x03) done f ≡ f (cond b 0x6F 0x03)
    go true = refl
    go false = refl

-- ---- sound memory of a profile

pub in_sound : (p : ℕ) (m : List ℕ) → sound_in p m ≡ true → sound m ≡ true
unfolding sound_in
in_sound p m e = and_left _ _ e

pub in_bounded : (p : ℕ) (m : List ℕ) → sound_in p m ≡ true → bounded p m ≡ true
unfolding sound_in
in_bounded p m e = and_right (sound m) _ e

pub sound_in_lem : (p : ℕ) (m : List ℕ) → sound m ≡ true → bounded p m ≡ true → sound_in p m ≡ true
unfolding sound_in
sound_in_lem p m s b = and_both s b
