-- A whole message told: the line of a refusal, or the first line and those of its records, and how much room all of them may take.
use Prim.Native.Nat.{ℕ, zero, suc, ◌+◌, ◌*◌, ◌≤◌, ◌<◌}
use native.Mathlib.Decide.{ℕ_discrete}
use native.Mathlib.Omega.{arith}
use mathlib.Core.Path.{◌≡◌, refl, ap}
use mathlib.Core.Logic.{inl, inr}
use mathlib.Core.Bool.{Bool, true, false, ◌&&◌, cond}
use mathlib.Core.List.{List, [], ◌∷◌, ◌++◌, map}
use mathlib.Core.Option.{Option, none, some}
use lib.ListN.{length, length-append, length-map}
use lib.Dec.{eqb, leb, ltb}
use borrow.Author.Tests.{leb-true, ne_eqb}
use Rattle.std.specs.Prelude.{Ok, Err}
use Rattle.meaning.specs.Octets.{be16, flat}
use Rattle.meaning.specs.Checks.{when_passed}
use Rattle.meaning.specs.Reply.{Held, Failed, held_octets, short_octets, failed_octets}
use Rattle.meaning.specs.Capture.{Capture, capturing, OneRecord, a_name, a_value, a_read_error, an_update, an_update_error, a_long_update, in_order, read_cause, update_cause, length_octets, is_reply, capture_checks, capture}
use Rattle.meaning.proofs.Lists.{Octets}
use Rattle.meaning.proofs.Tests.{first-passed}
use Rattle.meaning.proofs.Decode.{GoodHeld}
use Rattle.meaning.proofs.Fronts.{GoodShort}
use Rattle.meaning.proofs.Backwards.{reading}
use Rattle.meaning.proofs.Walked.{Element, length_spelt, spelling}
use Rattle.meaning.proofs.Skipped.{first_unless_higher}
use Rattle.meaning.proofs.SpeltContents.{NamesSpelt, CountedSpelt, StatusSpelt, LongsSpelt, ResultSpelt}
use Rattle.meaning.proofs.Accepts.{OfElement, Spelt, reply, notification, accepted_spelt}
use Rattle.octets.specs.Letters.{letters}
use Rattle.capture.specs.Handing.{Handed, refusal_number, number_of, handed_at, handed_first}
use Rattle.capture.specs.declared.Refusal.{Refusal}
use Rattle.capture.specs.declared.Refusal.TheVariants.{MessageEmpty, MessageTooLong, TypeUnknown, CutShort}
use Rattle.capture.proofs.ToTheEnd.{to_the_end, first_holds}
use Rattle.text.specs.Lines.{line}
use Rattle.words.specs.Lines.{record_line, record_size, complete_line, notify_line, message_lines}
use Rattle.telling.specs.Remaining.{head_line, sizes}
use Rattle.telling.proofs.Records.{Onward, onward}

-- ---- the number

-- of a refusal
pub number_small : (e : Refusal) → (1 ≤ refusal_number e) × (refusal_number e < 100)
unfolding refusal_number
number_small MessageEmpty = (omega arith, omega arith)
number_small MessageTooLong = (omega arith, omega arith)
number_small TypeUnknown = (omega arith, omega arith)
number_small CutShort = (omega arith, omega arith)

-- of what is no refusal
pub accepted_number : (h : Handed) → ((e : Refusal) → h ≡ Err e → ⊥) → number_of h ≡ 0
unfolding number_of
accepted_number (Ok h) t = refl
accepted_number (Err e) t = absurd (t e refl)

pub refused-lines : (s : List ℕ) (n : ℕ) → n ≡ (capture s).number → (n ≡ 0 → ⊥) → line n [] ≡ message_lines s
unfolding message_lines
refused-lines s zero e z = absurd (z refl)
refused-lines s (suc n) e z = rw (← e) (unfold when_passed in refl)

pub accepted_lines : (s : List ℕ) → (capture s).number ≡ 0 → head_line s ++ flat record_line (in_order (capture s).records) ≡ message_lines s
unfolding message_lines head_line when_passed
accepted_lines s e = rw e

module _ (s : List ℕ) (octets : Octets s) where
  pub number_is : (h : Handed) → h ≡ handed_first s → number_of h ≡ (capture s).number
  number_is h e = (to_the_end s octets (handed_at s) (λ c. refl) h e).0

  module _ (e : (capture s).number ≡ 0) where
    pub first-onward : (h : Handed) → h ≡ handed_first s → Onward s h (in_order (capture s).records)
    first-onward h f =
        let g = first_holds s octets e in
        rw (f, g.first) (onward s g.left (capture s).records g.holds)

pub head-short : (s : List ℕ) → length (head_line s) ≤ 9
unfolding head_line complete_line notify_line letters
head-short s = go (is_reply s)
  where
    go : (b : Bool) → length (cond b complete_line notify_line) ≤ 9
    go true = omega arith
    go false = omega arith

-- an accepted message has octets, and no more than 4,096
pub accepted_length : (s : List ℕ) → (capture s).number ≡ 0 → (1 ≤ length s) × (length s ≤ 4096)
unfolding capture capture_checks
accepted_length s e =
    let a = first-passed 1 _ _ e in
    let b = first-passed 2 _ _ a.1 in
    (leb-true _ _ a.0, leb-true _ _ b.0)

-- ---- how much room the lines may take

sizes-append : (a b : List OneRecord) → sizes (a ++ b) ≡ sizes a + sizes b
unfolding sizes
sizes-append [] b = omega arith
sizes-append (r ∷ a) b = omega (arith, sizes-append a b)

-- the records of a kind take as many octets as they are spelt with
spelt_sizes : {A : Type 0} (make : A → OneRecord) (f : A → List ℕ) → ((a : A) → record_size (make a) ≡ length (f a)) → (l : List A) → sizes (map make l) ≡ length (flat f l)
unfolding sizes flat
spelt_sizes make f e [] = refl
spelt_sizes make f e (a ∷ l) = omega (arith, e a, spelt_sizes make f e l, length-append (f a) (flat f l))

failed-sizes : (make : Failed → OneRecord) → ((f : Failed) → record_size (make f) ≡ 3) → (l : List Failed) → sizes (map make l) ≡ 3 * length l
unfolding sizes
failed-sizes make e [] = refl
failed-sizes make e (f ∷ l) = omega (arith, e f, failed-sizes make e l)

errors_are : (raw : List Failed) → length (flat failed_octets raw) ≡ 3 * length raw
unfolding flat failed_octets be16
errors_are [] = refl
errors_are (f ∷ raw) = omega (arith, errors_are raw)

-- of names, of values and errors behind their counts, of long updates

names_fit : (c ns : List ℕ) → NamesSpelt c ns → sizes (map a_name ns) ≤ length c
unfolding record_size be16
names_fit c ns h = omega (arith, spelt_sizes a_name be16 (λ n. refl) ns, ap length h.0)

module _ (one : Held → List ℕ) (Good : Held → Type 0) (cause : ℕ → ℕ) (value : Held → OneRecord) (failed : Failed → OneRecord)
    (k : (h : Held) → record_size (value h) ≡ length (one h)) (l : (f : Failed) → record_size (failed f) ≡ 3) where
  counted_fit : (c : List ℕ) (vs : List Held) (es : List Failed) (behind : List ℕ) → CountedSpelt one Good cause c vs es behind → sizes (map value vs) + sizes (map failed es) + length behind ≤ length c
  counted_fit c vs es behind h =
      let r = h.raw in
      omega (
        arith,
        spelt_sizes value one k vs,
        failed-sizes failed l es,
        ap length h.told,
        length-map r (reading cause),
        errors_are r,
        ap length h.octets,
        length-append (flat one vs) (length r ∷ flat failed_octets r ++ behind),
        length-append (flat failed_octets r) behind,
      )

longs_fit : (c : List ℕ) (ls : List Held) → LongsSpelt c ls → sizes (map a_long_update ls) ≤ length c
unfolding record_size held_octets be16 sizes
longs_fit c ls (inl h) = rw h.1 (omega arith)
longs_fit c ls (inr h) = omega (arith, spelt_sizes a_long_update held_octets (λ x. omega arith) ls, ap length h.0)

status_fit : (c : List ℕ) (vs : List Held) (es : List Failed) → StatusSpelt c vs es → sizes (map a_value vs) + sizes (map a_read_error es) ≤ length c
unfolding record_size held_octets be16
status_fit c vs es h = omega (arith, counted_fit held_octets GoodHeld read_cause a_value a_read_error (λ x. omega arith) (λ x. refl) c vs es [] h)

result_fit : (c : List ℕ) (us : List Held) (fs : List Failed) (ls : List Held) → ResultSpelt c us fs ls
    → sizes (map an_update us) + sizes (map an_update_error fs) + sizes (map a_long_update ls) ≤ length c
unfolding record_size short_octets be16
result_fit c us fs ls h =
    omega (arith, counted_fit short_octets GoodShort update_cause an_update an_update_error (λ x. omega arith) (λ x. refl) c us fs h.behind h.counted, longs_fit h.behind ls h.longs)

-- ---- the contents that are read lie apart in the message

unfoldable length_or : Option (List ℕ) → ℕ
length_or none = 0
length_or (some c) = length c

first-long : (id : ℕ) (e : Element) (es : List Element) → length_or (first_unless_higher id (e ∷ es)) ≤ cond (eqb e.id id) (length e.contents) 0 + length_or (first_unless_higher id es)
unfolding first_unless_higher length_or
first-long id e es = go (eqb e.id id) (ltb id e.id && leb e.id 0x72)
  where
    go : (a b : Bool) → length_or (cond a (some e.contents) (cond b none (first_unless_higher id es))) ≤ cond a (length e.contents) 0 + length_or (first_unless_higher id es)
    go true b = omega arith
    go false true = omega arith
    go false false = omega arith

-- an element has one identifier
one_of_three : (id n : ℕ) → cond (eqb id 0x70) n 0 + (cond (eqb id 0x71) n 0 + cond (eqb id 0x72) n 0) ≤ n
one_of_three id n = go (ℕ_discrete id 0x70) (ℕ_discrete id 0x71)
  where
    either : (b : Bool) → cond b n 0 ≤ n
    either true = omega arith
    either false = omega arith

    go : Dec (id ≡ 0x70) → Dec (id ≡ 0x71) → cond (eqb id 0x70) n 0 + (cond (eqb id 0x71) n 0 + cond (eqb id 0x72) n 0) ≤ n
    go (yes p) q = rw p (omega arith)
    go (no p) (yes q) = rw q (omega arith)
    go (no p) (no q) = rw (ne_eqb id 0x70 p, ne_eqb id 0x71 q) (omega (arith, either (eqb id 0x72)))

contents_apart : (es : List Element) → length_or (first_unless_higher 0x70 es) + (length_or (first_unless_higher 0x71 es) + length_or (first_unless_higher 0x72 es)) ≤ length (flat spelling es)
unfolding flat first_unless_higher length_or
contents_apart [] = omega arith
contents_apart (e ∷ es) =
    let c = e.contents in
    let l : length c ≤ length (spelling e) = unfold spelling in omega (arith, length-append (length_spelt (length_octets e.id) (length c)) c) in
    omega (
      arith,
      first-long 0x70 e es,
      first-long 0x71 e es,
      first-long 0x72 e es,
      one_of_three e.id (length c),
      contents_apart es,
      l,
      length-append (spelling e) (flat spelling es),
    )

-- ---- all records of a message take no more octets than it has

all-sizes : (r : Capture) → sizes (in_order r)
    ≡ sizes (map a_name r.names) + (sizes (map a_value r.values) + sizes (map a_read_error r.read_errors) + (sizes (map an_update r.updates) + sizes (map an_update_error r.update_errors) + sizes (map a_long_update r.long_updates)))
unfolding in_order
all-sizes r =
    let n = map a_name r.names in
    let v = map a_value r.values in
    let e = map a_read_error r.read_errors in
    let u = map an_update r.updates in
    let f = map an_update_error r.update_errors in
    let l = map a_long_update r.long_updates in
    omega (
      arith,
      sizes-append n (v ++ (e ++ (u ++ (f ++ l)))),
      sizes-append v (e ++ (u ++ (f ++ l))),
      sizes-append e (u ++ (f ++ l)),
      sizes-append u (f ++ l),
      sizes-append f l,
    )

names_of : (o : Option (List ℕ)) (ns : List ℕ) → OfElement o (λ c. NamesSpelt c ns) (ns ≡ []) → sizes (map a_name ns) ≤ length_or o
unfolding length_or sizes
names_of none ns h = rw h (omega arith)
names_of (some c) ns h = names_fit c ns h

status_of_lem : (o : Option (List ℕ)) (vs : List Held) (es : List Failed) → OfElement o (λ c. StatusSpelt c vs es) ((vs ≡ []) × (es ≡ [])) → sizes (map a_value vs) + sizes (map a_read_error es) ≤ length_or o
unfolding length_or sizes
status_of_lem none vs es h = rw (h.0, h.1) (omega arith)
status_of_lem (some c) vs es h = status_fit c vs es h

result_of_lem : (o : Option (List ℕ)) (us : List Held) (fs : List Failed) (ls : List Held) → OfElement o (λ c. ResultSpelt c us fs ls) ((us ≡ []) × (fs ≡ []) × (ls ≡ []))
    → sizes (map an_update us) + sizes (map an_update_error fs) + sizes (map a_long_update ls) ≤ length_or o
unfolding length_or sizes
result_of_lem none us fs ls h = rw (h.0, h.1, h.2) (omega arith)
result_of_lem (some c) us fs ls h = result_fit c us fs ls h

sizes_spelt : (s : List ℕ) (r : Capture) → Spelt s r → sizes (in_order r) ≤ length s
unfolding sizes
sizes_spelt _ r (reply {s} k) =
    omega (
      arith,
      all-sizes r,
      names_of (first_unless_higher 0x70 k.es) r.names k.names,
      status_of_lem (first_unless_higher 0x71 k.es) r.values r.read_errors k.status,
      result_of_lem (first_unless_higher 0x72 k.es) r.updates r.update_errors r.long_updates k.result,
      contents_apart k.es,
      ap length k.octets,
    )
sizes_spelt _ r (notification {s} k) =
    let o : sizes (in_order r) ≡ sizes (in_order (capturing [] r.values r.read_errors [] [] [])) = ap (λ (x : Capture). sizes (in_order x)) k.others in
    let l : length (be16 (length k.contents)) ≡ 2 = unfold be16 in refl in
    omega (
      arith,
      o,
      all-sizes (capturing [] r.values r.read_errors [] [] []),
      status_fit k.contents r.values r.read_errors k.status,
      ap length k.octets,
      length-append (be16 (length k.contents)) (k.contents ++ k.behind),
      length-append k.contents k.behind,
    )

pub first_fits : (s : List ℕ) → Octets s → (capture s).number ≡ 0 → sizes (in_order (capture s).records) ≤ 4096
first_fits s octets e =
    let k = accepted_spelt s octets e in
    omega (arith, sizes_spelt s (capture s).records k.0, k.1)
