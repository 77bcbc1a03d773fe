-- What a list of octets hands out is what is parsed there: at each place the operation that is found, which lies ahead and within the list.
use Prim.Native.Nat.{ℕ, suc, ◌+◌, ◌-◌, ◌≤◌, ◌<◌}
use native.Mathlib.Decide.{dec_le}
use native.Mathlib.Omega.{arith}
use mathlib.Core.Path.{◌≡◌, refl, sym, ap, ◌∙◌}
use mathlib.Core.List.{List}
use lib.ListN.{length, drop, get_or, length-drop, drop_of_length-le}
use lib.Seq.{drop-cons, get_or-drop}
use lib.Dec.{eqb}
use Rattle.meaning.specs.Octets.{at16, part}
use Rattle.meaning.specs.Operation.{capabilities, read, set, subscribe, unsubscribe, selective_read, selective_subscribe, selective_unsubscribe, delete_entry, Shape, alone, named, valued, malformed, shape_of, shape, Next, whole, shaped}
use Rattle.meaning.specs.Operation as operation
use Rattle.meaning.proofs.Lists.{length_part}
use Rattle.operation.specs.Handing.{op_of, Inside, op_at, Handed, found_at, handed_from, handed_at}
use Rattle.operation.proofs.Found.{whole_there, whole_cut, either, in_profile, rest, rest_length, rest_drop, rest_part}
use Rattle.operation.proofs.Turns.{found, first, handing, Reached, HandsOut}

module _ (s : List ℕ) (octets : (i : ℕ) → get_or s i 0 < 256) (at : ℕ) where
  -- what is found at the place is handed out
  abbrev Meets : Next → Type 0
  Meets nx = (handing s (found_at (length s) at nx) ≡ found nx) × Reached (length s) at (found_at (length s) at nx)

  module _ (h : at < length s) where
    abbrev behind : List ℕ
    behind = rest s at h

    name-small : at16 behind 0 < 65536
    unfolding at16
    name-small = rw (get_or-drop (suc at) s 0 0, get_or-drop (suc at) s 1 0) (omega (arith, octets (suc at + 0), octets (suc at + 1)))

    -- an operation of w octets after its code
    whole_hands : (w : ℕ) (o : operation.Op) → (w ≤ length behind → (op_of s (op_at at o) ≡ o) × Inside (length s) (op_at at o)) → Meets (whole w behind o)
    unfolding handing found_at
    whole_hands w o k = go (dec_le w (length behind))
      where
        go : Dec (w ≤ length behind) → Meets (whole w behind o)
        go (yes l) =
            let e : length s - length (drop w behind) ≡ suc at + w = omega (arith, rest_length s at h, length-drop w behind) in
            rw (whole_there w behind o l, e, (k l).0, rest_drop s at h w (suc at + w) refl)
            (refl, (omega arith, omega (arith, l, rest_length s at h), (k l).1))
        go (no l) = rw (whole_cut w behind o (omega arith)) (refl, refl)

    named_hands : (f : ℕ → operation.Op) → ((n : ℕ) → n < 65536 → (op_of s (op_at at (f n)) ≡ f n) × Inside (length s) (op_at at (f n))) → Meets (shaped (named f) behind)
    unfolding shaped
    named_hands f k = whole_hands 2 (f (at16 behind 0)) (λ _. k (at16 behind 0) name-small)

    valued_hands : (f : ℕ → List ℕ → operation.Op)
        → ((n : ℕ) (v : List ℕ) → n < 65536 → part s (at + 5) (length v) ≡ v → at + 5 + length v ≤ length s → (op_of s (op_at at (f n v)) ≡ f n v) × Inside (length s) (op_at at (f n v)))
        → Meets (shaped (valued f) behind)
    unfolding shaped
    valued_hands f k =
        let z = at16 behind 2 in
        let v = part behind 4 z in
        whole_hands (4 + z) (f (at16 behind 0) v) (λ l.
        let e : length v ≡ z = length_part behind 4 z l in
        k (at16 behind 0) v name-small (ap (part s (at + 5)) e ∙ sym (rest_part s at h 4 (at + 5) z (omega arith))) (omega (arith, e, l, rest_length s at h)))

    -- a shape whose operation is handed out
    abbrev Shows : Shape → Type 0
    Shows sh = Meets (shaped sh behind)

    alone_hands : Shows (alone capabilities)
    unfolding shaped handing found_at op_of op_at
    alone_hands =
        let e : length s - length behind ≡ suc at = omega (arith, rest_length s at h) in
        rw e (refl, (omega arith, omega arith, tt))

    malformed_hands : Shows malformed
    unfolding shaped handing found_at
    malformed_hands = (refl, refl)

    known_hands : (c : ℕ) → Shows (shape_of c)
    unfolding shape_of op_of op_at
    known_hands c =
        either Shows (eqb c 1) _ _ alone_hands
        (either Shows (eqb c 2) _ _ (named_hands read (λ n b. (refl, b)))
        (either Shows (eqb c 3) _ _ (valued_hands set (λ n v b e l. (ap (set n) e, (b, l))))
        (either Shows (eqb c 4) _ _ (named_hands subscribe (λ n b. (refl, b)))
        (either Shows (eqb c 5) _ _ (named_hands unsubscribe (λ n b. (refl, b)))
        (either Shows (eqb c 6) _ _ (valued_hands selective_read (λ n v b e l. (ap (selective_read n) e, (b, l))))
        (either Shows (eqb c 7) _ _ (valued_hands selective_subscribe (λ n v b e l. (ap (selective_subscribe n) e, (b, l))))
        (either Shows (eqb c 8) _ _ (valued_hands selective_unsubscribe (λ n v b e l. (ap (selective_unsubscribe n) e, (b, l))))
        (either Shows (eqb c 9) _ _ (valued_hands delete_entry (λ n v b e l. (ap (delete_entry n) e, (b, l)))) malformed_hands))))))))

    shape_hands : (p c : ℕ) → Shows (shape p c)
    shape_hands p c = in_profile Shows p c (known_hands c) malformed_hands

hands : (p : ℕ) (s : List ℕ) → ((i : ℕ) → get_or s i 0 < 256) → (at : ℕ) → Dec (length s ≤ at) → HandsOut p s at (handed_at p s at)
unfolding handed_at handed_from handing first
hands p s octets at (yes l) = rw (drop_of_length-le s l) (refl, tt)
hands p s octets at (no l) = rw (drop-cons s at 0 (omega arith)) (shape_hands s octets at (omega arith) p (get_or s at 0))

pub hands_out : (p : ℕ) (s : List ℕ) → ((i : ℕ) → get_or s i 0 < 256) → (at : ℕ) (r : Handed) → r ≡ handed_at p s at → HandsOut p s at r
hands_out p s octets at r e = rw e (hands p s octets at (dec_le (length s) at))
