-- The contents of elements and of a notification as they are spelt: those that are spelt so are read, and those that are read are spelt so.
use Prim.Native.Nat.{ℕ, ◌<◌}
use native.Mathlib.Omega.{arith}
use mathlib.Core.Path.{◌≡◌, refl, sym, ap, subst, ◌∙◌}
use mathlib.Core.Logic.{◌⊎◌, inl, inr}
use mathlib.Core.Bool.{cond}
use mathlib.Core.Option.{Option, none, some}
use mathlib.Core.List.{List, [], ◌∷◌, ◌++◌, append-nil, map}
use lib.ListN.{length}
use Rattle.meaning.specs.Octets.{be16, flat, nonempty}
use Rattle.meaning.specs.Reply.{Held, Failed, held_octets, short_octets, failed_octets}
use Rattle.meaning.specs.Capture.{Capture, capturing, then_read, sized, front_name, front_held, front_failed, update_cause, read_cause, behind_count, until_end, exactly, names_in, status_in, longs_in, result_in}
use Rattle.meaning.proofs.Lists.{Each, Octets, each_left, each_right}
use Rattle.meaning.proofs.Decode.{GoodHeld, GoodFailed}
use Rattle.meaning.proofs.Fronts.{GoodName, GoodShort, GoodCause, name_front, held_front, short_front, failed_front, count_front, end_front, held_some, longs_spelt}
use Rattle.meaning.proofs.Backwards.{Came, then_came, some_same, two_came, name_came, held_came, short_came, failed_came, count_came, end_came, reading, read_as, count-read}

-- ---- contents as they are spelt

abbrev pub NamesSpelt : List ℕ → List ℕ → Type 0
NamesSpelt c ns = (c ≡ flat be16 ns) × Each GoodName ns

-- values and errors, each behind its count, with some octets behind them; `raw` are the errors with their causes as they stand
pub record CountedSpelt (one : Held → List ℕ) (Good : Held → Type 0) (cause : ℕ → ℕ) (c : List ℕ) (vs : List Held) (es : List Failed) (behind : List ℕ) : Type 0 where
  pub raw : List Failed
  pub octets : c ≡ length vs ∷ flat one vs ++ (length raw ∷ flat failed_octets raw ++ behind)
  pub told : es ≡ map (reading cause) raw
  pub good_values : Each Good vs
  pub good_errors : Each GoodFailed raw

abbrev pub StatusSpelt : List ℕ → List Held → List Failed → Type 0
StatusSpelt c vs es = CountedSpelt held_octets GoodHeld read_cause c vs es []

-- nothing, or a length and so many octets of values
abbrev pub LongsSpelt : List ℕ → List Held → Type 0
LongsSpelt c ls = ((c ≡ []) × (ls ≡ [])) ⊎ ((c ≡ be16 (length (flat held_octets ls)) ++ flat held_octets ls) × (length (flat held_octets ls) < 65536) × Each GoodHeld ls)

pub record ResultSpelt (c : List ℕ) (us : List Held) (fs : List Failed) (ls : List Held) : Type 0 where
  pub behind : List ℕ
  pub counted : CountedSpelt short_octets GoodShort update_cause c us fs behind
  pub longs : LongsSpelt behind ls

-- ---- contents that are spelt so are read

as_they_stand : (l : List Failed) → Each GoodFailed l → Each (GoodCause (λ c. c)) l
as_they_stand [] h = tt
as_they_stand (f ∷ l) h = ((h.0, refl), as_they_stand l h.1)

errors_read : (cause : ℕ → ℕ) (raw : List Failed) (behind : List ℕ) → Each GoodFailed raw
    → behind_count (front_failed cause) (length raw ∷ flat failed_octets raw ++ behind) ≡ some (map (reading cause) raw, behind)
unfolding read_as
errors_read cause raw behind g =
    count-read cause (length raw ∷ flat failed_octets raw ++ behind)
    ∙ ap (read_as cause) (count_front failed_octets (front_failed (λ c. c)) (GoodCause (λ c. c)) (failed_front (λ c. c)) raw behind (as_they_stand raw g))

pub names-read : (c ns : List ℕ) → NamesSpelt c ns → names_in c ≡ some (capturing ns [] [] [] [] [])
unfolding names_in then_read
names-read c ns h = rw (h.0, end_front be16 front_name GoodName name_front (λ n. unfold be16 in omega arith) ns h.1)

pub status-read : (c : List ℕ) (vs : List Held) (es : List Failed) → StatusSpelt c vs es → status_in c ≡ some (capturing [] vs es [] [] [])
unfolding status_in then_read exactly
status-read c vs es h =
    rw (
      h.octets,
      count_front held_octets (front_held 2) GoodHeld held_front vs (length h.raw ∷ flat failed_octets h.raw ++ []) h.good_values,
      errors_read read_cause h.raw [] h.good_errors,
      h.told,
    )

longs_read : (c : List ℕ) (ls : List Held) → LongsSpelt c ls → longs_in c ≡ some ls
unfolding longs_in
longs_read c ls (inl h) = rw (h.0, h.1)
longs_read c ls (inr h) =
    ap longs_in h.0 ∙ longs_spelt (flat held_octets ls) h.1 ∙ end_front held_octets (front_held 2) GoodHeld held_front held_some ls h.2

pub result-read : (c : List ℕ) (us : List Held) (fs : List Failed) (ls : List Held) → ResultSpelt c us fs ls → result_in c ≡ some (capturing [] [] [] us fs ls)
unfolding result_in then_read
result-read c us fs ls h =
    let k = h.counted in
    rw (
      k.octets,
      count_front short_octets (front_held 1) GoodShort short_front us (length k.raw ∷ flat failed_octets k.raw ++ h.behind) k.good_values,
      errors_read update_cause k.raw h.behind k.good_errors,
      longs_read h.behind ls h.longs,
      k.told,
    )

-- ---- contents that are read are spelt so

read_as_came : (cause : ℕ → ℕ) (o : Option (List Failed × List ℕ)) (es : List Failed) (t : List ℕ) → read_as cause o ≡ some (es, t) → (raw : List Failed) × (o ≡ some (raw, t)) × (es ≡ map (reading cause) raw)
unfolding read_as
read_as_came cause none es t e = absurd (let z : ◌≡◌ {A = ℕ} 0 1 = cc in omega arith)
read_as_came cause (some r) es t e =
    let p : ◌≡◌ {A = List Failed × List ℕ} (map (reading cause) r.0, r.1) (es, t) = some_same e in
    (r.0, ap (λ (b : List ℕ). some (r.0, b)) (ap (λ (x : List Failed × List ℕ). x.1) p), sym (ap (λ (x : List Failed × List ℕ). x.0) p))

pub names_came : (c : List ℕ) (r : Capture) → Octets c → names_in c ≡ some r → (NamesSpelt c r.names) × (r ≡ capturing r.names [] [] [] [] [])
unfolding names_in
names_came c r o e =
    let p = then_came (until_end front_name c) _ r e in
    let q : capturing p.0 [] [] [] [] [] ≡ r = some_same p.2 in
    subst (λ (x : Capture). (NamesSpelt c x.names) × (x ≡ capturing x.names [] [] [] [] [])) q
    (end_came be16 front_name GoodName name_came c p.0 o p.1, refl)

exactly_came : {A : Type 0} (r : A × List ℕ) (a : A) → exactly r ≡ some a → (r.1 ≡ []) × (r.0 ≡ a)
unfolding exactly
exactly_came r a e = go r.1 e
  where
    go : (t : List ℕ) → cond (nonempty t) none (some r.0) ≡ some a → (t ≡ []) × (r.0 ≡ a)
    go [] e = (refl, some_same e)
    go (x ∷ t) e = absurd (let z : ◌≡◌ {A = ℕ} 0 1 = cc in omega arith)

-- the two counts, by how a value is spelt
pub counted_came : (one : Held → List ℕ) (w : ℕ) (Good : Held → Type 0) (came : Came one (front_held w) Good) (cause : ℕ → ℕ) (c : List ℕ) (v : List Held × List ℕ) (e : List Failed × List ℕ)
    → Octets c → behind_count (front_held w) c ≡ some v → behind_count (front_failed cause) v.1 ≡ some e → CountedSpelt one Good cause c v.0 e.0 e.1 × Octets e.1
counted_came one w Good came cause c v e o p q =
    let a = count_came one (front_held w) Good came c v o p in
    let r = read_as_came cause (behind_count (front_failed (λ c. c)) v.1) e.0 e.1 (sym (count-read cause v.1) ∙ q) in
    let b = count_came failed_octets (front_failed (λ c. c)) GoodFailed failed_came v.1 (r.0, e.1) a.2 r.1 in (
      record {
        raw = r.0;
        octets = a.0 ∙ ap (λ (l : List ℕ). length v.0 ∷ flat one v.0 ++ l) b.0;
        told = r.2;
        good_values = a.1;
        good_errors = b.1;
      },
      b.2,
    )

pub status_came : (c : List ℕ) (r : Capture) → Octets c → status_in c ≡ some r → StatusSpelt c r.values r.read_errors × (r ≡ capturing [] r.values r.read_errors [] [] [])
unfolding status_in
status_came c r o e =
    let p = then_came (behind_count (front_held 2) c) _ r e in
    let q = then_came (behind_count (front_failed read_cause) p.0.1) _ r p.2 in
    let x = exactly_came (capturing [] p.0.0 q.0.0 [] [] [], q.0.1) r q.2 in
    let s = (counted_came held_octets 2 GoodHeld held_came read_cause c p.0 q.0 o p.1 q.1).0 in
    subst (λ (x : Capture). StatusSpelt c x.values x.read_errors × (x ≡ capturing [] x.values x.read_errors [] [] [])) x.1
    (subst (λ (t : List ℕ). CountedSpelt held_octets GoodHeld read_cause c p.0.0 q.0.0 t) x.0 s, refl)

-- a length, so many octets v, and nothing behind them
longs_whole : (s v : List ℕ) (ls : List Held) → Octets s → s ≡ be16 (length v) ++ (v ++ []) → length v < 65536 → until_end (front_held 2) v ≡ some ls → LongsSpelt s ls
longs_whole s v ls o e h u =
    let ov : Octets v = each_left (λ x. x < 256) v [] (each_right (λ x. x < 256) (be16 (length v)) (v ++ []) (rw e at o)) in
    let p = end_came held_octets (front_held 2) GoodHeld held_came v ls ov u in
    let f : s ≡ be16 (length v) ++ v = e ∙ ap (λ (l : List ℕ). be16 (length v) ++ l) (append-nil v) in
    inr (rw p.0 at f, rw p.0 at h, p.1)

longs_came : (c : List ℕ) (ls : List Held) → Octets c → longs_in c ≡ some ls → LongsSpelt c ls
unfolding longs_in
longs_came [] ls o e = inl (refl, sym (some_same e))
longs_came (x ∷ c) ls o e =
    let p = then_came (sized 2 (x ∷ c)) _ ls e in
    let q = then_came (exactly p.0) _ ls p.2 in
    let y = exactly_came p.0 q.0 q.1 in
    let d = two_came (x ∷ c) p.0.0 p.0.1 o p.1 in
    longs_whole (x ∷ c) p.0.0 ls o (d.0 ∙ ap (λ (t : List ℕ). be16 (length p.0.0) ++ (p.0.0 ++ t)) y.0) d.1
    (ap (until_end (front_held 2)) y.1 ∙ q.2)

pub result_came : (c : List ℕ) (r : Capture) → Octets c → result_in c ≡ some r
    → ResultSpelt c r.updates r.update_errors r.long_updates × (r ≡ capturing [] [] [] r.updates r.update_errors r.long_updates)
unfolding result_in
result_came c r o e =
    let p = then_came (behind_count (front_held 1) c) _ r e in
    let q = then_came (behind_count (front_failed update_cause) p.0.1) _ r p.2 in
    let l = then_came (longs_in q.0.1) _ r q.2 in
    let s = counted_came short_octets 1 GoodShort short_came update_cause c p.0 q.0 o p.1 q.1 in
    subst (λ (x : Capture). ResultSpelt c x.updates x.update_errors x.long_updates × (x ≡ capturing [] [] [] x.updates x.update_errors x.long_updates)) (some_same l.2)
    (record { behind = q.0.1; counted = s.0; longs = longs_came q.0.1 l.0 s.1 l.1 }, refl)
