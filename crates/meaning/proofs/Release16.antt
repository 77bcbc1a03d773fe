-- What a controller of Release 16 is never told (RULES 24.3, 24.6, 24.7): stated over the records that a reply or a notification spells.
use Prim.Native.Nat.{ℕ, zero, suc, ◌≤◌, ◌<◌}
use native.Mathlib.Omega.{arith}
use mathlib.Core.Path.{◌≡◌, refl, sym, ap, ◌∙◌}
use mathlib.Core.Logic.{◌≢◌}
use mathlib.Core.Bool.{Bool, true, false, ◌&&◌, not, cond, false≢true}
use mathlib.Core.List.{List, [], ◌∷◌}
use lib.ListN.{length}
use lib.Dec.{eqb}
use borrow.Author.Tests.{leb-true, eqb-false}
use Rattle.meaning.specs.Table.{row_at, rows, place, place_in, by_port, entry_count}
use Rattle.meaning.specs.Memory.{present, pending, body}
use Rattle.meaning.specs.Profile.{is_release16, lists, listed, sendable, cause_absent}
use Rattle.meaning.specs.Operation.{Op}
use Rattle.meaning.specs.Reply.{Held, Failed, Records, held, failed}
use Rattle.meaning.specs.Calls.{is_command, ops_of, records, message, build}
use Rattle.meaning.specs.Capture.{Capture, capture}
use Rattle.meaning.proofs.Lists.{Each, Octets, each_append}
use Rattle.meaning.proofs.Tests.{and_left, and_right, denied, implied}
use Rattle.meaning.proofs.Places.{places-named}
use Rattle.meaning.proofs.Sound.{Sound, opened}
use Rattle.meaning.proofs.Encode.{Fine}
use Rattle.meaning.proofs.Answered.{Answered, end, lists_names, reads_value, reads_unlisted, reads_absent, sets_short, sets_long, sets_unlisted, sets_foreign, sets_too_long, sets_wrong, subscribes, unsubscribes, reads_selected, subscribes_selected, unsubscribes_selected, deletes_entry, answered}
use Rattle.meaning.proofs.Cut.{whole_fine}
use Rattle.meaning.proofs.Notified.{pending-port, pending_values, pending_errors}
use Rattle.meaning.proofs.Flights.{build_idle}
use Rattle.meaning.proofs.Told.{place_of_name}
use Rattle.meaning.proofs.ReadBack.{eighteen, names_of, told, message_reads, build_reads}

-- no record of a value, and as an error only one that says that there is no such name; and cause 03 nowhere
abbrev Other : Held → Type 0
Other h = h.name ≢ 0x000B

abbrev Told : Failed → Type 0
Told f = (f.cause ≢ 0x03) × (f.name ≡ 0x000B → f.cause ≡ 0x01)

-- what is told, by kind
pub record Sixteen (c : Capture) : Type 0 where
  pub names : Each (λ n. n ≢ 0x000B) c.names
  pub values : Each (λ (h : Held). h.name ≢ 0x000B) c.values
  pub read_errors : Each (λ (f : Failed). (f.cause ≢ 0x03) × (f.name ≡ 0x000B → f.cause ≡ 0x01)) c.read_errors
  pub updates : Each (λ (h : Held). h.name ≢ 0x000B) c.updates
  pub update_errors : Each (λ (f : Failed). (f.cause ≢ 0x03) × (f.name ≡ 0x000B → f.cause ≡ 0x01)) c.update_errors
  pub no_long : c.long_updates ≡ []

-- ---- the answers to operations

record Spoken (r : Records) : Type 0 where
  values : Each Other r.values
  read_errors : Each Told r.read_errors
  updates : Each Other r.updates
  update_errors : Each Told r.update_errors
  no_long : r.long_updates ≡ []

-- a list of names without one
unfoldable without : ℕ → List ℕ → Bool
without k [] = true
without k (n ∷ ns) = not (eqb n k) && without k ns

each_without : (k : ℕ) (ns : List ℕ) → without k ns ≡ true → Each (λ n. n ≢ k) ns
unfolding without
each_without k [] e = tt
each_without k (n ∷ ns) e = (eqb-false n k (denied _ (and_left _ _ e)), each_without k ns (and_right (not (eqb n k)) _ e))

module _ (p : ℕ) (r16 : is_release16 p ≡ true) where
  -- a name that is listed is another one
  other : (n : ℕ) → listed p n ≡ true → n ≢ 0x000B
  unfolding listed lists place place_in rows
  other n e q = false≢true (rw (q, r16) at e)

  absent_6_f : cause_absent p ≡ 0x6F
  unfolding cause_absent
  absent_6_f = rw r16

  told_as : (n c : ℕ) → c ≢ 0x03 → n ≢ 0x000B → Told (record { name = n; cause = c })
  told_as n c h ne = (h, λ e. absurd (ne e))

  spoken : {m : List ℕ} {os : List Op} {r : Records} → Answered p m os r → Each (Fine p) os → Spoken r
  spoken end f = record { values = tt; read_errors = tt; updates = tt; update_errors = tt; no_long = refl }
  spoken (lists_names a) f = let s = spoken a f.1 in record { values = s.values; read_errors = s.read_errors; updates = s.updates; update_errors = s.update_errors; no_long = s.no_long }
  spoken (reads_value {n} e h a) f =
      let s = spoken a f.1 in
      record { values = (other n e, s.values); read_errors = s.read_errors; updates = s.updates; update_errors = s.update_errors; no_long = s.no_long }
  spoken (reads_unlisted e a) f =
      let s = spoken a f.1 in
      record { values = s.values; read_errors = ((λ q. omega (arith, q), λ q. refl), s.read_errors); updates = s.updates; update_errors = s.update_errors; no_long = s.no_long }
  spoken (reads_absent {n} e h a) f =
      let s = spoken a f.1 in
      record {
        values = s.values;
        read_errors = (told_as n (cause_absent p) (λ q. omega (arith, q, absent_6_f)) (other n e), s.read_errors);
        updates = s.updates;
        update_errors = s.update_errors;
        no_long = s.no_long;
      }
  spoken (sets_short {n} t h a) f =
      let s = spoken a f.1 in
      record { values = s.values; read_errors = s.read_errors; updates = (other n t.is_listed, s.updates); update_errors = s.update_errors; no_long = s.no_long }
  spoken (sets_long {v} t h a) f = unfold sendable in absurd (omega (arith, h, leb-true (length v) 255 (implied _ _ t.answerable r16)))
  spoken (sets_unlisted e a) f =
      let s = spoken a f.1 in
      record { values = s.values; read_errors = s.read_errors; updates = s.updates; update_errors = ((λ q. omega (arith, q), λ q. refl), s.update_errors); no_long = s.no_long }
  spoken (sets_foreign {n} e h a) f =
      let s = spoken a f.1 in
      record { values = s.values; read_errors = s.read_errors; updates = s.updates; update_errors = (told_as n 0x6F (λ q. omega (arith, q)) (other n e), s.update_errors); no_long = s.no_long }
  spoken (sets_too_long {n} e h l a) f =
      let s = spoken a f.1 in
      record { values = s.values; read_errors = s.read_errors; updates = s.updates; update_errors = (told_as n 0x6F (λ q. omega (arith, q)) (other n e), s.update_errors); no_long = s.no_long }
  spoken (sets_wrong {n} e h l g a) f =
      let s = spoken a f.1 in
      record { values = s.values; read_errors = s.read_errors; updates = s.updates; update_errors = (told_as n 0x02 (λ q. omega (arith, q)) (other n e), s.update_errors); no_long = s.no_long }
  spoken (subscribes a) f = spoken a f.1
  spoken (unsubscribes a) f = spoken a f.1
  spoken (reads_selected a) f = absurd (false≢true (sym f.0.2 ∙ r16))
  spoken (subscribes_selected a) f = absurd (false≢true (sym f.0.2 ∙ r16))
  spoken (unsubscribes_selected a) f = absurd (false≢true (sym f.0.2 ∙ r16))
  spoken (deletes_entry a) f = absurd (false≢true (sym f.0.2 ∙ r16))

  names_other : (b : Bool) → Each (λ n. n ≢ 0x000B) (cond b (names_of p) [])
  unfolding names_of
  names_other true = rw r16 (unfold eighteen without in each_without 0x000B eighteen refl)
  names_other false = tt

  -- of a command that is carried out
  pub message_sixteen : (m s room : List ℕ) → Octets s → is_command s ≡ true → (message p m s room).number ≡ 0 → Sixteen (capture (message p m s room).written).records
  unfolding told
  message_sixteen m s room o c n =
      let r = spoken (answered p m (ops_of p s)) (whole_fine p m s room o c n) in
      rw (message_reads p m s room o c n)
      record {
        names = names_other (records p m (ops_of p s)).capabilities;
        values = r.values;
        read_errors = r.read_errors;
        updates = r.updates;
        update_errors = r.update_errors;
        no_long = r.no_long;
      }

  -- and of a notification that is built: its names are such as the port sets
  pending_other : (m : List ℕ) (k : ℕ) → Sound m → k < entry_count → pending m k ≡ true → (row_at k).name ≢ 0x000B
  unfolding row_at rows by_port
  pending_other m k S hk e q =
      false≢true (sym (ap (λ (j : ℕ). by_port (row_at j).owner) (sym (place_of_name k hk) ∙ ap place q ∙ places-named.5)) ∙ pending-port m k S hk e)

  values_other : (m : List ℕ) (k : ℕ) → Sound m → k ≤ entry_count → Each Other (pending_values m k)
  unfolding pending_values
  values_other m zero S h = tt
  values_other m (suc k) S h = each_append Other (pending_values m k) _ (values_other m k S (omega arith)) (go (pending m k) refl (present m k))
    where
      go : (q : Bool) → pending m k ≡ q → (b : Bool) → Each Other (cond (q && b) (held (row_at k).name (body m k)) [])
      go true e true = (pending_other m k S (omega arith) e, tt)
      go true e false = tt
      go false e b = tt

  errors_told : (m : List ℕ) (k : ℕ) → Sound m → k ≤ entry_count → Each Told (pending_errors p m k)
  unfolding pending_errors
  errors_told m zero S h = tt
  errors_told m (suc k) S h = each_append Told (pending_errors p m k) _ (errors_told m k S (omega arith)) (go (pending m k) refl (present m k))
    where
      go : (q : Bool) → pending m k ≡ q → (b : Bool) → Each Told (cond (q && not b) (failed (row_at k).name (cause_absent p)) [])
      go true e true = tt
      go true e false = (told_as (row_at k).name (cause_absent p) (λ q. omega (arith, q, absent_6_f)) (pending_other m k S (omega arith) e), tt)
      go false e b = tt

  pub build_sixteen : (m room : List ℕ) → (build p m room).number ≡ 0 → Sixteen (capture (build p m room).written).records
  build_sixteen m room n =
      let S = opened m (build_idle p m room n).0 in
      rw (build_reads p m room n)
      record { names = tt; values = values_other m entry_count S (omega arith); read_errors = errors_told m entry_count S (omega arith); updates = tt; update_errors = tt; no_long = refl }
