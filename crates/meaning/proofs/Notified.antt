-- No notification is longer than 559 octets, so that a room of 1,600 always serves; and what it says can be read back.
use Prim.Native.Nat.{ℕ, zero, suc, ◌+◌, ◌≤◌, ◌<◌}
use native.Mathlib.Omega.{arith}
use mathlib.Core.Path.{◌≡◌, refl, sym, ap, ◌∙◌}
use mathlib.Core.Bool.{Bool, true, false, ◌&&◌, not, cond}
use mathlib.Core.List.{List, [], ◌∷◌, ◌++◌}
use lib.ListN.{length, drop, length-append}
use Rattle.meaning.specs.Octets.{be16, flat, octet, at16}
use Rattle.meaning.specs.Table.{row_at, rows, by_port, entry_count}
use Rattle.meaning.specs.Wire.{notification_most}
use Rattle.meaning.specs.Memory.{cell, present, pending, body, is_pending, is_subscribed, sound}
use Rattle.meaning.specs.Profile.{cause_absent}
use Rattle.meaning.specs.Step.{Answer, value, read_error}
use Rattle.meaning.specs.Reply.{Held, Failed, held, failed, Records, no_records, joined, record_of, gathered, held_octets, failed_octets}
use Rattle.meaning.specs.Calls.{report, reports, notification}
use Rattle.meaning.proofs.Lists.{flat-length}
use Rattle.meaning.proofs.Tests.{and_right, implied}
use Rattle.meaning.proofs.Sound.{Sound, opened, entry_of}
use Rattle.meaning.proofs.Records.{gathered-append, read_length}
use Rattle.meaning.proofs.Places.{name-small, most-small}
use Rattle.meaning.proofs.Decode.{records_in, counted, many, to_end, Good, reads_full}
use Rattle.meaning.proofs.Answered.{body-length, good_joined, good_record}

-- a record of the longest value, for each name set by the port among the first k
unfoldable pub longest : ℕ → ℕ
longest zero = 0
longest (suc k) = longest k + cond (by_port (row_at k).owner) (4 + (row_at k).most) 0

pub longest_all : longest entry_count ≡ 554
unfolding longest by_port row_at rows
longest_all = refl

-- the octets of the records that answer reads
unfoldable weight : Records → ℕ
weight r = length (flat held_octets r.values) + length (flat failed_octets r.read_errors)

weight_joined : (r s : Records) → weight (joined r s) ≡ weight r + weight s
unfolding weight
weight_joined r s =
    omega (arith, flat-length held_octets r.values s.values, flat-length failed_octets r.read_errors s.read_errors)

held_weight : (n : ℕ) (v : List ℕ) → weight (gathered (value n v ∷ [])) ≡ 4 + length v
unfolding weight gathered record_of flat held_octets be16
held_weight n v = omega (arith, length-append v [])

failed_weight : (n c : ℕ) → weight (gathered (read_error n c ∷ [])) ≡ 3
unfolding weight gathered record_of flat failed_octets be16
failed_weight n c = refl

-- a name is reported with its value (RULES 14.4) or, where it is absent, with a cause (RULES 14.5)
pub report-value : (p : ℕ) (m : List ℕ) (k : ℕ) → present m k ≡ true → report p m k ≡ value (row_at k).name (body m k)
unfolding report
report-value p m k e = rw e

pub report-absent : (p : ℕ) (m : List ℕ) (k : ℕ) → present m k ≡ false → report p m k ≡ read_error (row_at k).name (cause_absent p)
unfolding report
report-absent p m k e = ap (λ (b : Bool). cond b (value (row_at k).name (body m k)) (read_error (row_at k).name (cause_absent p))) e

-- what holds of both holds of a report
report_either : (p : ℕ) (P : Answer → Type 0) (m : List ℕ) (k : ℕ) → P (value (row_at k).name (body m k)) → P (read_error (row_at k).name (cause_absent p)) → P (report p m k)
report_either p P m k f g = go (present m k) refl
  where
    go : (b : Bool) → present m k ≡ b → P (report p m k)
    go true e = rw (report-value p m k e) f
    go false e = rw (report-absent p m k e) g

report_weight : (p : ℕ) (m : List ℕ) (k : ℕ) → weight (gathered (report p m k ∷ [])) ≤ 4 + (row_at k).most
report_weight p m k =
    report_either p (λ a. weight (gathered (a ∷ [])) ≤ 4 + (row_at k).most) m k
    (omega (arith, held_weight (row_at k).name (body m k), body-length m k))
    (omega (arith, failed_weight (row_at k).name (cause_absent p)))

-- only names set by the port are pending
pub pending-port : (m : List ℕ) (k : ℕ) → Sound m → k < entry_count → pending m k ≡ true → by_port (row_at k).owner ≡ true
unfolding pending
pending-port m k S hk p =
    and_right (is_subscribed (cell m k)) _ (implied (is_pending (cell m k)) _ (entry_of m S k hk).marks p)

one_weight : (p : ℕ) (m : List ℕ) (k : ℕ) → Sound m → k < entry_count
    → weight (gathered (cond (pending m k) (report p m k ∷ []) [])) ≤ cond (by_port (row_at k).owner) (4 + (row_at k).most) 0
unfolding weight gathered flat
one_weight p m k S hk = go (pending m k) refl
  where
    go : (b : Bool) → pending m k ≡ b → weight (gathered (cond b (report p m k ∷ []) [])) ≤ cond (by_port (row_at k).owner) (4 + (row_at k).most) 0
    go true e = rw (pending-port m k S hk e) (report_weight p m k)
    go false e = omega arith

reports_weight : (p : ℕ) (m : List ℕ) (k : ℕ) → Sound m → k ≤ entry_count → weight (gathered (reports p m k)) ≤ longest k
unfolding reports longest
reports_weight p m zero S h = unfold weight gathered flat in omega arith
reports_weight p m (suc k) S h =
    let a = reports p m k in
    let b = cond (pending m k) (report p m k ∷ []) [] in
    let e : weight (gathered (a ++ b)) ≡ weight (gathered a) + weight (gathered b) = ap weight (gathered-append a b) ∙ weight_joined (gathered a) (gathered b) in
    omega (arith, e, reports_weight p m k S (omega arith), one_weight p m k S (omega arith))

pub notification-most : (p : ℕ) (m : List ℕ) → sound m ≡ true → length (notification p m) ≤ notification_most
unfolding notification be16 weight
notification-most p m s =
    let r = gathered (reports p m entry_count) in
    let w : weight r ≤ longest entry_count = reports_weight p m entry_count (opened m s) (omega arith) in
    omega (arith, read_length r, longest_all, w)

-- ---- a notification is read back: its records are those of the pending names

unfoldable pub decode_notification : List ℕ → Records
decode_notification s = records_in false (drop 3 s) []

-- a report is a value or a read error, with a name and a length of two octets each
pub record Report (r : Records) : Type 0 where
  pub good : Good r
  pub no_names : r.capabilities ≡ false
  pub no_updates : r.updates ≡ []
  pub no_update_errors : r.update_errors ≡ []
  pub no_long_updates : r.long_updates ≡ []

no_report : Report no_records
no_report =
    record { good = record { values = tt; read_errors = tt; updates = tt; update_errors = tt; long_updates = tt }; no_names = refl; no_updates = refl; no_update_errors = refl; no_long_updates = refl }

report-joined : (r s : Records) → Report r → Report s → Report (joined r s)
report-joined r s f g =
    record {
      good = good_joined r s f.good g.good;
      no_names = rw (f.no_names, g.no_names);
      no_updates = rw (f.no_updates, g.no_updates);
      no_update_errors = rw (f.no_update_errors, g.no_update_errors);
      no_long_updates = rw (f.no_long_updates, g.no_long_updates);
    }

report_one : (p : ℕ) (m : List ℕ) (k : ℕ) → k < entry_count → Report (record_of (report p m k))
unfolding record_of
report_one p m k hk =
    report_either p (λ a. Report (record_of a)) m k
    (record {
      good = good_record (value (row_at k).name (body m k)) (name-small k hk, omega (arith, body-length m k, most-small k hk));
      no_names = refl;
      no_updates = refl;
      no_update_errors = refl;
      no_long_updates = refl;
    })
    (record { good = good_record (read_error (row_at k).name (cause_absent p)) (name-small k hk); no_names = refl; no_updates = refl; no_update_errors = refl; no_long_updates = refl })

pub reports_are : (p : ℕ) (m : List ℕ) (k : ℕ) → k ≤ entry_count → Report (gathered (reports p m k))
unfolding reports gathered
reports_are p m zero h = no_report
reports_are p m (suc k) h =
    rw (gathered-append (reports p m k) (cond (pending m k) (report p m k ∷ []) []))
    (report-joined _ _ (reports_are p m k (omega arith)) (go (pending m k)))
  where
    go : (b : Bool) → Report (gathered (cond b (report p m k ∷ []) []))
    go true = report-joined (record_of (report p m k)) no_records (report_one p m k (omega arith)) no_report
    go false = no_report

pub notification-read : (p : ℕ) (m : List ℕ) → decode_notification (notification p m) ≡ gathered (reports p m entry_count)
unfolding decode_notification notification be16 counted many to_end
notification-read p m =
    let r = gathered (reports p m entry_count) in
    let t : Report r = reports_are p m entry_count (omega arith) in
    let a = reads_full r t.good in
    λ i.
    record {
      capabilities = sym t.no_names i;
      values = a.0 i;
      read_errors = a.1 i;
      updates = sym t.no_updates i;
      update_errors = sym t.no_update_errors i;
      long_updates = sym t.no_long_updates i;
    }

-- ---- what it says: RULES 14.3 to 14.5

unfoldable pub pending_values : List ℕ → ℕ → List Held
pending_values m zero = []
pending_values m (suc k) = pending_values m k ++ cond (pending m k && present m k) (held (row_at k).name (body m k)) []

unfoldable pub pending_errors : ℕ → List ℕ → ℕ → List Failed
pending_errors p m zero = []
pending_errors p m (suc k) = pending_errors p m k ++ cond (pending m k && not (present m k)) (failed (row_at k).name (cause_absent p)) []

pub reports_say : (p : ℕ) (m : List ℕ) (k : ℕ)
    → ((gathered (reports p m k)).values ≡ pending_values m k) × ((gathered (reports p m k)).read_errors ≡ pending_errors p m k)
unfolding reports report gathered record_of pending_values pending_errors
reports_say p m zero = (refl, refl)
reports_say p m (suc k) = go (pending m k) (present m k) (reports_say p m k)
  where
    one_report : Bool → Bool → List Answer
    one_report t q = cond t (cond q (value (row_at k).name (body m k)) (read_error (row_at k).name (cause_absent p)) ∷ []) []

    go : (t q : Bool)
        → ((gathered (reports p m k)).values ≡ pending_values m k) × ((gathered (reports p m k)).read_errors ≡ pending_errors p m k)
        → ((gathered (reports p m k ++ one_report t q)).values ≡ pending_values m k ++ cond (t && q) (held (row_at k).name (body m k)) [])
        × ((gathered (reports p m k ++ one_report t q)).read_errors ≡ pending_errors p m k ++ cond (t && not q) (failed (row_at k).name (cause_absent p)) [])
    go true true h = let e = gathered-append (reports p m k) (one_report true true) in (rw (e, h.0), rw (e, h.1))
    go true false h = let e = gathered-append (reports p m k) (one_report true false) in (rw (e, h.0), rw (e, h.1))
    go false q h = let e = gathered-append (reports p m k) [] in (rw (e, h.0), rw (e, h.1))

pub notification_says : (p : ℕ) (m : List ℕ)
    → ((decode_notification (notification p m)).values ≡ pending_values m entry_count) × ((decode_notification (notification p m)).read_errors ≡ pending_errors p m entry_count)
notification_says p m = rw (notification-read p m) (reports_say p m entry_count)

-- ---- its head and its length

pub notification-head : (p : ℕ) (m : List ℕ) → sound m ≡ true → (octet (notification p m) 0 ≡ 3) × (3 + at16 (notification p m) 1 ≡ length (notification p m))
unfolding notification be16 at16
notification-head p m s = (refl, omega (arith, notification-most p m s))
