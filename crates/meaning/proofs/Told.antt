-- Of which names a notification tells, as octets: of exactly those that are pending (RULES 14.3).
use Prim.Native.Nat.{ℕ, zero, suc, ◌≤◌, ◌<◌}
use native.Mathlib.Omega.{arith}
use native.Mathlib.Decide.{ℕ_discrete}
use mathlib.Core.Path.{◌≡◌, refl, sym, ap, ◌∙◌}
use mathlib.Core.Logic.{◌⊎◌, inl, inr}
use mathlib.Core.Bool.{Bool, true, false, ◌&&◌, ◌||◌, cond, false≢true}
use mathlib.Core.List.{List, [], ◌∷◌, ◌++◌}
use lib.Dec.{eqb}
use lib.ListN.{length}
use borrow.Author.Tests.{eqb-true, eq-eqb}
use Rattle.meaning.specs.Octets.{nonempty, below}
use Rattle.meaning.specs.Table.{row_at, rows, place, place_in, entry_count}
use Rattle.meaning.specs.Memory.{present, pending}
use Rattle.meaning.specs.Step.{Answer}
use Rattle.meaning.specs.Reply.{Held, Failed, Records, joined, record_of, gathered}
use Rattle.meaning.specs.Calls.{Outcome, report, reports, notification, build_checks, build}
use Rattle.meaning.proofs.Tests.{and_left, and_right, or_left, or_right, or_cases, alike, below_at}
use Rattle.meaning.proofs.Checked.{call-done, call-passed}
use Rattle.meaning.proofs.Records.{gathered-append}
use Rattle.meaning.proofs.Notified.{report-value, report-absent, decode_notification, notification-read}

-- ---- the names of a message

-- those of its values, and those of its errors
unfoldable pub held_named : ℕ → List Held → Bool
held_named n [] = false
held_named n (h ∷ hs) = eqb h.name n || held_named n hs

unfoldable pub failed_named : ℕ → List Failed → Bool
failed_named n [] = false
failed_named n (f ∷ fs) = eqb f.name n || failed_named n fs

abbrev pub tells_in : Records → ℕ → Bool
tells_in r n = held_named n r.values || failed_named n r.read_errors

-- whether a notification, as octets, tells of a name
abbrev pub tells : List ℕ → ℕ → Bool
tells s n = tells_in (decode_notification s) n

-- ---- what a notification tells

or_assoc : (a b c : Bool) → (a || (b || c)) ≡ ((a || b) || c)
or_assoc true b c = refl
or_assoc false b c = refl

held-named : (n : ℕ) (a b : List Held) → held_named n (a ++ b) ≡ (held_named n a || held_named n b)
unfolding held_named
held-named n [] b = refl
held-named n (h ∷ a) b = rw (held-named n a b) (or_assoc (eqb h.name n) (held_named n a) (held_named n b))

failed-named : (n : ℕ) (a b : List Failed) → failed_named n (a ++ b) ≡ (failed_named n a || failed_named n b)
unfolding failed_named
failed-named n [] b = refl
failed-named n (f ∷ a) b = rw (failed-named n a b) (or_assoc (eqb f.name n) (failed_named n a) (failed_named n b))

exchanged : (a b c d : Bool) → ((a || b) || (c || d)) ≡ ((a || c) || (b || d))
exchanged true b c d = refl
exchanged false true true d = refl
exchanged false true false d = refl
exchanged false false c d = refl

tells_joined : (r s : Records) (n : ℕ) → tells_in (joined r s) n ≡ (tells_in r n || tells_in s n)
tells_joined r s n =
    rw (held-named n r.values s.values, failed-named n r.read_errors s.read_errors)
    (exchanged (held_named n r.values) (held_named n s.values) (failed_named n r.read_errors) (failed_named n s.read_errors))

or_first : (b : Bool) → ((b || false) || false) ≡ b
or_first true = refl
or_first false = refl

or_last : (b : Bool) → (b || false) ≡ b
or_last true = refl
or_last false = refl

-- the report of one place tells its name alone
one_told : (p : ℕ) (m : List ℕ) (k n : ℕ) → tells_in (gathered (report p m k ∷ [])) n ≡ eqb (row_at k).name n
unfolding gathered record_of held_named failed_named
one_told p m k n = go (present m k) refl
  where
    go : (b : Bool) → present m k ≡ b → tells_in (gathered (report p m k ∷ [])) n ≡ eqb (row_at k).name n
    go true e = rw (report-value p m k e) (or_first (eqb (row_at k).name n))
    go false e = rw (report-absent p m k e) (or_last (eqb (row_at k).name n))

told-next : (p : ℕ) (m : List ℕ) (j n : ℕ) → tells_in (gathered (reports p m (suc j))) n ≡ (tells_in (gathered (reports p m j)) n || (pending m j && eqb (row_at j).name n))
unfolding reports
told-next p m j n =
    let r = cond (pending m j) (report p m j ∷ []) [] in
    ap (λ (x : Records). tells_in x n) (gathered-append (reports p m j) r)
    ∙ tells_joined (gathered (reports p m j)) (gathered r) n
    ∙ ap (λ (b : Bool). tells_in (gathered (reports p m j)) n || b) (go (pending m j))
  where
    go : (b : Bool) → tells_in (gathered (cond b (report p m j ∷ []) [])) n ≡ (b && eqb (row_at j).name n)
    go true = one_told p m j n
    go false = unfold gathered held_named failed_named in refl

-- no two places have one name
abbrev placed : ℕ → Bool
placed k = eqb (place (row_at k).name) k

all_placed : below entry_count placed ≡ true
unfolding below place place_in row_at rows
all_placed = refl

pub place_of_name : (k : ℕ) → k < entry_count → place (row_at k).name ≡ k
place_of_name k hk = eqb-true _ _ (below_at entry_count placed all_placed k hk)

told-pending : (p : ℕ) (m : List ℕ) (j k : ℕ) → j ≤ entry_count → k < entry_count → tells_in (gathered (reports p m j)) (row_at k).name ≡ true → pending m k ≡ true
told-pending p m zero k hj hk e = absurd (false≢true (unfold reports gathered held_named failed_named in e))
told-pending p m (suc j) k hj hk e = go (or_cases _ _ (sym (told-next p m j (row_at k).name) ∙ e)) (told-pending p m j k (omega arith) hk)
  where
    go : (tells_in (gathered (reports p m j)) (row_at k).name ≡ true) ⊎ ((pending m j && eqb (row_at j).name (row_at k).name) ≡ true)
        → (tells_in (gathered (reports p m j)) (row_at k).name ≡ true → pending m k ≡ true) → pending m k ≡ true
    go (inl h) ih = ih h
    go (inr h) ih =
        let same = eqb-true (row_at j).name (row_at k).name (and_right (pending m j) _ h) in
        let y : j ≡ k = sym (place_of_name j (omega arith)) ∙ ap place same ∙ place_of_name k hk in
        ap (pending m) (sym y) ∙ and_left _ _ h

pending-told : (p : ℕ) (m : List ℕ) (j k : ℕ) → k < j → pending m k ≡ true → tells_in (gathered (reports p m j)) (row_at k).name ≡ true
pending-told p m zero k h e = absurd (omega arith)
pending-told p m (suc j) k h e = told-next p m j (row_at k).name ∙ go (ℕ_discrete k j) (λ l. pending-told p m j k l e)
  where
    go : Dec (k ≡ j) → (k < j → tells_in (gathered (reports p m j)) (row_at k).name ≡ true)
        → (tells_in (gathered (reports p m j)) (row_at k).name || (pending m j && eqb (row_at j).name (row_at k).name)) ≡ true
    go (yes y) ih = or_right (tells_in (gathered (reports p m j)) (row_at k).name) _ (rw (sym y, e, eq-eqb (row_at k).name (row_at k).name refl))
    go (no ne) ih = or_left _ _ (ih (omega arith))

-- a notification tells of exactly the pending names
pub told-exactly : (p : ℕ) (m : List ℕ) (k : ℕ) → k < entry_count → tells (notification p m) (row_at k).name ≡ pending m k
told-exactly p m k hk =
    ap (λ (r : Records). tells_in r (row_at k).name) (notification-read p m)
    ∙ alike _ _ (told-pending p m entry_count k (omega arith) hk) (pending-told p m entry_count k hk)

pub reports_some : (p : ℕ) (m : List ℕ) (j k : ℕ) → k < j → pending m k ≡ true → nonempty (reports p m j) ≡ true
reports_some p m j k h e = go (reports p m j) (pending-told p m j k h e)
  where
    go : (rs : List Answer) → tells_in (gathered rs) (row_at k).name ≡ true → nonempty rs ≡ true
    go [] t = absurd (false≢true (unfold gathered held_named failed_named in t))
    go (r ∷ rs) t = refl

-- so does the notification that a build writes
pub build_tells : (p : ℕ) (m room : List ℕ) (k : ℕ) → k < entry_count → (build p m room).number ≡ 0 → tells (build p m room).written (row_at k).name ≡ pending m k
unfolding build build_checks
build_tells p m room k hk e =
    let f = call-passed (build_checks p m (length room)) _ m room e in
    ap (λ (o : Outcome). tells o.written (row_at k).name) (call-done (build_checks p m (length room)) _ m room f) ∙ told-exactly p m k hk
