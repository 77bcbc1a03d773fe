-- A whole message: it is refused with the number of the definition, or handed out from start to end are exactly the records that the definition reads,
-- in their order.
use Prim.Native.Nat.{ℕ, suc, ◌≤◌, ◌<◌}
use native.Mathlib.Decide.{dec_le}
use native.Mathlib.Omega.{arith}
use mathlib.Core.Path.{◌≡◌, refl, sym, ap, subst, ◌∙◌}
use mathlib.Core.Logic.{◌⊎◌, inl, inr}
use mathlib.Core.Bool.{Bool, true, false, ◌||◌, cond, false≢true}
use mathlib.Core.List.{List, [], append-nil}
use mathlib.Core.Option.{Option, none, some}
use lib.ListN.{length, drop}
use borrow.Author.Tests.{le-leb, lt-leb, leb-true, le-ltb, eqb-false}
use Rattle.std.specs.Prelude.{Option as Returned, Some, None}
use Rattle.meaning.specs.Octets.{octet}
use Rattle.meaning.specs.Reply.{Held as OneHeld, Failed as OneFailed}
use Rattle.meaning.specs.Checks.{first_failed, when_passed}
use Rattle.meaning.specs.Capture.{Capture, capturing, merged, OneRecord, in_order, then_read, front_name, front_held, front_failed, update_cause, status_in, of_element, Elements, elements_of, in_reply, in_notification, sized, is_reply, is_notification, is_there, contained, capture_checks, Captured, or_nothing, capture}
use Rattle.meaning.specs.Capture as meaning
use Rattle.meaning.proofs.Lists.{Octets}
use Rattle.meaning.proofs.Tests.{first-passed}
use Rattle.contents.specs.Spans.{octets_of, spanned, of_walk, walked}
use Rattle.contents.specs.declared.Span.{Span}
use Rattle.contents.proofs.Between.{between, between_end}
use Rattle.contents.proofs.Lengths.{Found, found, stands}
use Rattle.capture.specs.declared.Cursor.{Cursor}
use Rattle.capture.specs.Opening.{cursor, nothing_left, of_elements, opened_status, opened_reply, of_contents, opened_notification}
use Rattle.capture.specs.declared.Refusal.TheVariants.{MessageEmpty, MessageTooLong, TypeUnknown, CutShort}
use Rattle.capture.specs.Handing.{Handed, refused as refused_with, refusal_number, number_of, handed_at, of_opened, handed_first}
use Rattle.capture.proofs.Openings.{first_empty, first_too_long, first_unknown}
use Rattle.capture.proofs.WalksAgree.{Same, Agree, elements_agree}
use Rattle.capture.proofs.ElementsOpened.{empty, empty_whole, NamesOpens, NamesOpen, names-opens, StatusOpens, StatusOpen, status-opens, ResultOpens, result-opens}
use Rattle.capture.proofs.FromCursor.{Holds, Next, ends, hands, next, onward, handed_out, from-cursor}

-- what is opened and what is read: both refused, or the cursor holds exactly the records
pub record Held (s : List ℕ) (x : Returned Cursor) (o : Option Capture) : Type 0 where
  pub left : Cursor
  pub records : Capture
  pub opened : x ≡ Some left
  pub read : o ≡ some records
  pub holds : Holds s left records

abbrev pub Alike : List ℕ → Returned Cursor → Option Capture → Type 0
Alike s x o = ((x ≡ None) × (o ≡ none)) ⊎ Held s x o

-- three captures, each of one element's kinds, are one
merged-kinds : (n : List ℕ) (v : List OneHeld) (e : List OneFailed) (u : List OneHeld) (f : List OneFailed) (l : List OneHeld)
    → merged (capturing n [] [] [] [] []) (merged (capturing [] v e [] [] []) (capturing [] [] [] u f l)) ≡ capturing n v e u f l
merged-kinds n v e u f l =
    λ i. record { names = append-nil n i; values = append-nil v i; read_errors = append-nil e i; updates = u; update_errors = f; long_updates = l }

module _ (s : List ℕ) (octets : Octets s) where
  -- the three elements, one after another
  module _ (k : Elements Span) (m : Elements (Option (List ℕ))) (h : Same s k m) where
    by_result : (n : NamesOpen s k.names m.names) (t : StatusOpen s n.names k.status m.status) → ResultOpens s n.names t.values t.errors k.result m.result
        → Alike s (of_elements s (of_walk (some k))) (meaning.of_elements m)
    unfolding of_elements of_walk meaning.of_elements then_read
    by_result n t (inl r) = inl (rw (n.opened, t.opened, r.0), rw (n.read, t.read, r.1))
    by_result n t (inr r) =
        inr
        (record {
          left = cursor n.names t.values t.errors r.updates r.errors r.longs;
          records = capturing n.ns t.vs t.es r.us r.fs r.ls;
          opened = rw (n.opened, t.opened, r.opened);
          read = rw (n.read, t.read, r.read) (ap (λ (x : Capture). some x) (merged-kinds n.ns t.vs t.es r.us r.fs r.ls));
          holds = record {
            names = n.whole;
            values = t.whole_values;
            read_errors = t.whole_errors;
            updates = r.whole_updates;
            update_errors = r.whole_errors;
            long_updates = r.whole_longs;
          };
        })

    by_status : (n : NamesOpen s k.names m.names) → StatusOpens s n.names k.status m.status → Alike s (of_elements s (of_walk (some k))) (meaning.of_elements m)
    unfolding of_elements of_walk meaning.of_elements then_read
    by_status n (inl t) = inl (rw (n.opened, t.0), rw (n.read, t.1))
    by_status n (inr t) = by_result n t (result-opens s octets n.names t.values t.errors k.result m.result h.result)

    by_names : NamesOpens s k.names m.names → Alike s (of_elements s (of_walk (some k))) (meaning.of_elements m)
    unfolding of_elements of_walk meaning.of_elements then_read
    by_names (inl n) = inl (rw n.0, rw n.1)
    by_names (inr n) = by_status n (status-opens s octets n.names k.status m.status h.status)

  by_walks : (x : Option (Elements Span)) (y : Option (Elements (Option (List ℕ)))) → Agree s x y → Alike s (of_elements s (of_walk x)) (then_read y meaning.of_elements)
  unfolding of_elements of_walk then_read
  by_walks none none a = inl (refl, refl)
  by_walks none (some m) a = absurd a
  by_walks (some k) none a = absurd a
  by_walks (some k) (some m) a = by_names k m a (names-opens s k.names m.names a.names)

  reply_alike : 1 ≤ length s → Alike s (opened_reply s) (in_reply (drop 1 s))
  unfolding opened_reply walked in_reply
  reply_alike h = by_walks _ _ (elements_agree s h)

  -- a notification
  by_status-alone : (p : Span) → StatusOpens s empty p (some (octets_of s p)) → Alike s (opened_status s nothing_left p) (status_in (octets_of s p))
  unfolding of_element
  by_status-alone p (inl t) = inl t
  by_status-alone p (inr t) =
      inr
      (record {
        left = cursor empty t.values t.errors empty empty empty;
        records = capturing [] t.vs t.es [] [] [];
        opened = t.opened;
        read = t.read;
        holds = record {
          names = empty_whole front_name s;
          values = t.whole_values;
          read_errors = t.whole_errors;
          updates = empty_whole (front_held 1) s;
          update_errors = empty_whole (front_failed update_cause) s;
          long_updates = empty_whole (front_held 2) s;
        };
      })

  by_contents : 1 ≤ length s → (x : Returned Span) → Found s 1 (length s) 2 x → Alike s (of_contents s (spanned (length s) (sized 2 (drop 1 s)))) (then_read (sized 2 (drop 1 s)) (λ c. status_in c.0))
  unfolding of_contents spanned then_read
  by_contents h None f =
      let g : sized 2 (drop 1 s) ≡ none = ap (sized 2) (sym (between_end s 1)) ∙ f in
      inl (rw g, rw g)
  by_contents h (Some p) f =
      let g : sized 2 (drop 1 s) ≡ some (octets_of s p, between s p.to (length s)) = ap (sized 2) (sym (between_end s 1)) ∙ f.0 in
      rw (g, stands s p (length s) f.2 f.3 (omega arith))
      (by_status-alone p (status-opens s octets empty p (some (octets_of s p)) (refl, omega (arith, f.1, f.2), f.2, f.3)))

  notification_alike : 1 ≤ length s → Alike s (opened_notification s) (in_notification (drop 1 s))
  unfolding opened_notification in_notification
  notification_alike h = by_contents h (spanned (length s) (sized 2 (between s 1 (length s)))) (found s 1 (length s) 2 h (omega arith) _ refl)

  -- what is opened by the type, and what the message contains
  pub opened_alike : 1 ≤ length s → Alike s (cond (is_reply s) (opened_reply s) (opened_notification s)) (contained s)
  unfolding contained
  opened_alike h = go (is_reply s)
    where
      go : (b : Bool) → Alike s (cond b (opened_reply s) (opened_notification s)) (cond b (in_reply (drop 1 s)) (in_notification (drop 1 s)))
      go true = reply_alike h
      go false = notification_alike h

-- ---- the number, and what is handed out

-- the first answer, by the checks of the definition
module _ (s : List ℕ) where
  module _ (h : 1 ≤ length s) (l : length s ≤ 4096) where
    first_opened : (is_reply s || is_notification s) ≡ true → handed_first s ≡ of_opened s (cond (is_reply s) (opened_reply s) (opened_notification s))
    unfolding handed_first
    first_opened t = rw (le-ltb (length s) 1 h, le-ltb 4096 (length s) l) (go (is_reply s) (is_notification s) t)
      where
        go : (a b : Bool) → (a || b) ≡ true
            → cond a (of_opened s (opened_reply s)) (cond b (of_opened s (opened_notification s)) (refused_with TypeUnknown)) ≡ of_opened s (cond a (opened_reply s) (opened_notification s))
        go true b e = refl
        go false true e = refl
        go false false e = absurd (false≢true e)

-- a message that is accepted: its records from the first answer on, by any number of calls from theirs on; one that is refused: its number, and nothing
abbrev pub HandsOut : List ℕ → Handed → ((ℕ → Option (List OneRecord))) → Type 0
HandsOut s first out =
    (number_of first ≡ (capture s).number)
    × ((capture s).number ≡ 0 → (n : ℕ) → length (in_order (capture s).records) ≤ n → out n ≡ some (in_order (capture s).records))
    × ((n k : ℕ) → (capture s).number ≡ suc k → out n ≡ none)

module _ (s : List ℕ) (octets : Octets s) (f : Cursor → Handed) (each : (c : Cursor) → f c ≡ handed_at s c) where
  abbrev Answers : Handed → Type 0
  Answers first = HandsOut s first (λ n. onward s first (handed_out s f n))

  -- a refusal: its number, and no record
  refused : (first : Handed) (k : ℕ) → (capture s).number ≡ suc k → number_of first ≡ suc k → ((rest : Cursor → Option (List OneRecord)) → onward s first rest ≡ none) → Answers first
  refused first k e m o = (m ∙ sym e, (λ z n l. absurd (omega (arith, e, z))), (λ n i z. o (handed_out s f n)))

  -- a message that was opened
  accepted : (c : Cursor) (r : Capture) → capture s ≡ record { number = 0; records = r } → Holds s c r → Answers (handed_at s c)
  unfolding handed_out
  accepted c r e h = (
    number_0 (next s c r h) ∙ sym (ap (λ (x : Captured). x.number) e),
    (λ z n l.
        let k : length (in_order r) ≤ n = rw e at l in
        ap (λ (x : Handed). onward s x (handed_out s f n)) (sym (each c)) ∙ from-cursor s f each (suc n) c r h (omega arith) ∙ sym (ap (λ (x : Captured). some (in_order x.records)) e)),
    (λ n k z. absurd (omega (arith, z, ap (λ (x : Captured). x.number) e))),
  )
    where
      number_0 : Next s c r → number_of (handed_at s c) ≡ 0
      number_0 (ends a o) = ap number_of a ∙ unfold number_of in refl
      number_0 (hands one c' r' a o h' i) = ap number_of a ∙ unfold number_of in refl

  empty_message : length s < 1 → (capture s).number ≡ 2
  unfolding capture capture_checks first_failed
  empty_message h = rw (lt-leb 1 (length s) h)

  too_long : 1 ≤ length s → 4096 < length s → (capture s).number ≡ 3
  unfolding capture capture_checks first_failed
  too_long h l = rw (le-leb 1 (length s) h, lt-leb (length s) 4096 l)

  unknown : 1 ≤ length s → length s ≤ 4096 → is_reply s ≡ false → is_notification s ≡ false → (capture s).number ≡ 13
  unfolding capture capture_checks first_failed
  unknown h l a b = rw (le-leb 1 (length s) h, le-leb (length s) 4096 l, a, b)

  module _ (h : 1 ≤ length s) (l : length s ≤ 4096) (t : (is_reply s || is_notification s) ≡ true) where
    captured_none : contained s ≡ none → (capture s).number ≡ 14
    unfolding capture capture_checks first_failed
    captured_none e = rw (le-leb 1 (length s) h, le-leb (length s) 4096 l, t, e)

    captured_some : (r : Capture) → contained s ≡ some r → capture s ≡ record { number = 0; records = r }
    unfolding capture capture_checks first_failed when_passed or_nothing
    captured_some r e = rw (le-leb 1 (length s) h, le-leb (length s) 4096 l, t, e)

    by_opened : (x : Returned Cursor) → Alike s x (contained s) → Answers (of_opened s x)
    unfolding of_opened number_of refusal_number onward
    by_opened x (inl a) = rw a.0 (refused (refused_with CutShort) 13 (captured_none a.1) refl (λ rest. refl))
    by_opened x (inr a) = rw a.opened (accepted a.left a.records (captured_some a.records a.read) a.holds)

  by_type : 1 ≤ length s → length s ≤ 4096 → Answers (handed_first s)
  by_type h l = go (is_reply s) refl (is_notification s) refl
    where
      go : (a : Bool) → is_reply s ≡ a → (b : Bool) → is_notification s ≡ b → Answers (handed_first s)
      go true p b q = let t : (is_reply s || is_notification s) ≡ true = rw p in rw (first_opened s h l t) (by_opened h l t _ (opened_alike s octets h))
      go false p true q = let t : (is_reply s || is_notification s) ≡ true = rw (p, q) in rw (first_opened s h l t) (by_opened h l t _ (opened_alike s octets h))
      go false p false q = rw (sym (first_unknown s h l (eqb-false (octet s 0) 2 (unfold is_reply in p)) (eqb-false (octet s 0) 3 (unfold is_notification in q)))) (refused (refused_with TypeUnknown) 12 (unknown h l p q) (unfold number_of refusal_number in refl) (λ rest. unfold onward in refl))

  answers : Answers (handed_first s)
  answers = go (dec_le 1 (length s)) (dec_le (length s) 4096)
    where
      go : Dec (1 ≤ length s) → Dec (length s ≤ 4096) → Answers (handed_first s)
      go (no h) l = rw (sym (first_empty s (omega arith))) (refused (refused_with MessageEmpty) 1 (empty_message (omega arith)) (unfold number_of refusal_number in refl) (λ rest. unfold onward in refl))
      go (yes h) (no l) = rw (sym (first_too_long s h (omega arith))) (refused (refused_with MessageTooLong) 2 (too_long h (omega arith)) (unfold number_of refusal_number in refl) (λ rest. unfold onward in refl))
      go (yes h) (yes l) = by_type h l

  -- the first answer as the contract of `first` gives it, each further one as that of `next` does
  pub to_the_end : (first : Handed) → first ≡ handed_first s → HandsOut s first (λ n. onward s first (handed_out s f n))
  to_the_end first e = rw e answers

-- an accepted message hands out first what a cursor does that holds all of its records
pub record FirstHolds (s : List ℕ) : Type 0 where
  pub left : Cursor
  pub first : handed_first s ≡ handed_at s left
  pub holds : Holds s left (capture s).records

module _ (s : List ℕ) (octets : Octets s) where
  by_alike : (h : 1 ≤ length s) (l : length s ≤ 4096) (t : (is_reply s || is_notification s) ≡ true) → is_there (contained s) ≡ true
      → Alike s (cond (is_reply s) (opened_reply s) (opened_notification s)) (contained s) → FirstHolds s
  unfolding of_opened
  by_alike h l t e (inl a) = absurd (false≢true (sym (ap is_there a.1) ∙ e))
  by_alike h l t e (inr a) =
      let c = captured_some s octets (handed_at s) (λ c. refl) h l t a.records a.read in
      record {
        left = a.left;
        first = first_opened s h l t ∙ ap (of_opened s) a.opened;
        holds = subst (λ (r : Capture). Holds s a.left r) (sym (ap (λ (x : Captured). x.records) c)) a.holds;
      }

  pub first_holds : (capture s).number ≡ 0 → FirstHolds s
  unfolding capture capture_checks
  first_holds e =
      let a = first-passed 1 _ _ e in
      let b = first-passed 2 _ _ a.1 in
      let c = first-passed 12 _ _ b.1 in
      let d = first-passed 13 _ _ c.1 in
      let h : 1 ≤ length s = leb-true _ _ a.0 in
      by_alike h (leb-true _ _ b.0) c.0 d.0 (opened_alike s octets h)
