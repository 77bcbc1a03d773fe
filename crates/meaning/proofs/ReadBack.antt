-- All that the port writes reads back: the reader accepts every reply to a command that is carried out and every notification that is built,
-- and gives exactly the records that were answered.
use Prim.Native.Nat.{ℕ, zero, suc, ◌+◌, ◌≤◌, ◌<◌}
use native.Mathlib.Omega.{arith}
use mathlib.Core.Path.{◌≡◌, refl, sym, ap, ◌∙◌}
use mathlib.Core.Bool.{Bool, true, false, ◌&&◌, ◌||◌, not, cond, false≢true}
use mathlib.Core.Option.{Option, none, some}
use mathlib.Core.List.{List, [], ◌∷◌, ◌++◌, append-nil}
use lib.ListN.{length}
use borrow.Author.Tests.{le-leb}
use Rattle.meaning.specs.Octets.{at16, be16, flat, nonempty}
use Rattle.meaning.specs.Checks.{first_failed, when_passed}
use Rattle.meaning.specs.Table.{row_at, entry_count}
use Rattle.meaning.specs.Memory.{present, pending, set_timer, sound}
use Rattle.meaning.specs.Profile.{is_release16, cause_absent}
use Rattle.meaning.specs.Operation.{Op}
use Rattle.meaning.specs.Reply.{Held, Failed, failed, Records, held_octets, short_octets, failed_octets, read_contents, long_octets, set_contents, all_names, element, any_read, any_set, complete, gathered}
use Rattle.meaning.specs.Calls.{Outcome, is_command, ops_of, records, message, done, reports, notification, when_sent, turned, build_checks, build}
use Rattle.meaning.specs.Capture.{Capture, capturing, no_capture, then_read, front_name, front_held, front_failed, update_cause, read_cause, until_end_in, until_end, exactly, names_in, status_in, longs_in, result_in, length_octets, Elements, is_read, keeping, elements_of, of_element, of_elements, in_reply, in_notification, contained, is_reply, is_notification, capture_checks, or_nothing, capture}
use Rattle.meaning.proofs.Lists.{Each, Octets, each_append}
use Rattle.meaning.proofs.Tests.{first-passed}
use Rattle.meaning.proofs.Checked.{call-done, call-passed}
use Rattle.meaning.proofs.Places.{name-small}
use Rattle.meaning.proofs.Contents.{first_names, last_names, names_spelt}
use Rattle.meaning.proofs.Profiles.{in_sound}
use Rattle.meaning.proofs.Records.{set-length, complete-length}
use Rattle.meaning.proofs.Decode.{GoodHeld, Good}
use Rattle.meaning.proofs.Answered.{Answered, end, lists_names, reads_value, reads_unlisted, reads_absent, sets_short, sets_long, sets_unlisted, sets_foreign, sets_wrong, subscribes, unsubscribes, reads_selected, subscribes_selected, unsubscribes_selected, deletes_entry, answered, records_good, sets_too_long}
use Rattle.meaning.proofs.Accepted.{carried_accepted, accepted_call}
use Rattle.meaning.proofs.Cut.{whole_fine}
use Rattle.meaning.proofs.Fronts.{GoodShort, GoodCause, held_front, short_front, failed_front, count_front, count_last, end_front, held_some, longs_spelt}
use Rattle.meaning.proofs.Notified.{reports_are, reports_say, pending_values, pending_errors, notification-most, notification-head}
use Rattle.meaning.proofs.Walked.{length_spelt, spelling, walk_from, walk-nil, walk-element}
use Rattle.meaning.proofs.Skipped.{kept_of, unread, contents_alone}

-- ---- records that read as themselves

pub record Readable (r : Records) : Type 0 where
  pub values : Each GoodHeld r.values
  pub read_errors : Each (GoodCause read_cause) r.read_errors
  pub updates : Each GoodShort r.updates
  pub update_errors : Each (GoodCause update_cause) r.update_errors
  pub long_updates : Each GoodHeld r.long_updates

-- the names of the table, those that Release 16 lists, and those of a profile
unfoldable pub nineteen : List ℕ
nineteen =
    0x0001 ∷ 0x0003 ∷ 0x0004 ∷ 0x0005 ∷ 0x0006 ∷ 0x0007 ∷ 0x0008 ∷ 0x000B ∷ 0x0040 ∷ 0x0041 ∷ 0x0042 ∷ 0x0060 ∷ 0x0061 ∷ 0x00A0 ∷ 0x00A1 ∷ 0x00A2 ∷ 0x00A3 ∷ 0x00A4
    ∷ 0x8001 ∷ []

unfoldable pub eighteen : List ℕ
eighteen =
    0x0001 ∷ 0x0003 ∷ 0x0004 ∷ 0x0005 ∷ 0x0006 ∷ 0x0007 ∷ 0x0008 ∷ 0x0040 ∷ 0x0041 ∷ 0x0042 ∷ 0x0060 ∷ 0x0061 ∷ 0x00A0 ∷ 0x00A1 ∷ 0x00A2 ∷ 0x00A3 ∷ 0x00A4
    ∷ 0x8001 ∷ []

unfoldable pub names_of : ℕ → List ℕ
names_of p = cond (is_release16 p) eighteen nineteen

-- what a reader is told by a reply of these records: the names of the profile exactly if capabilities were asked
unfoldable pub told : (p : ℕ) → Records → Capture
told p r = capturing (cond r.capabilities (names_of p) []) r.values r.read_errors r.updates r.update_errors r.long_updates

-- ---- contents

names-back : (p : ℕ) → names_in (all_names p) ≡ some (capturing (names_of p) [] [] [] [] [])
unfolding names_in until_end until_end_in front_name then_read at16 names_of eighteen nineteen
names-back p = ap names_in (names_spelt p) ∙ go (is_release16 p)
  where
    go : (b : Bool) → names_in (first_names ++ (cond b [] (0 ∷ 0x0B ∷ []) ++ last_names)) ≡ some (capturing (cond b eighteen nineteen) [] [] [] [] [])
    go true = refl
    go false = refl

-- the cause of an absent value is one that is told
absent-read : (p : ℕ) → read_cause (cause_absent p) ≡ cause_absent p
unfolding cause_absent read_cause update_cause
absent-read p = go (is_release16 p)
  where
    go : (b : Bool) → ◌≡◌ {A = ℕ} (read_cause (cond b 0x6F 0x03)) (cond b 0x6F 0x03)
    go true = refl
    go false = refl

pub status-back : (r : Records) → Each GoodHeld r.values → Each (GoodCause read_cause) r.read_errors
    → status_in (read_contents r) ≡ some (capturing [] r.values r.read_errors [] [] [])
unfolding status_in read_contents then_read exactly
status-back r g h =
    rw (
      count_front held_octets (front_held 2) GoodHeld held_front r.values (length r.read_errors ∷ flat failed_octets r.read_errors) g,
      count_last failed_octets (front_failed read_cause) (GoodCause read_cause) (failed_front read_cause) r.read_errors h,
    )

longs_back : (l : List Held) → Each GoodHeld l → length (flat held_octets l) < 65536 → longs_in (long_octets l) ≡ some l
unfolding long_octets
longs_back [] g h = unfold longs_in in refl
longs_back (x ∷ l) g h = longs_spelt (flat held_octets (x ∷ l)) h ∙ end_front held_octets (front_held 2) GoodHeld held_front held_some (x ∷ l) g

pub result-back : (r : Records) → Each GoodShort r.updates → Each (GoodCause update_cause) r.update_errors → Each GoodHeld r.long_updates → length (flat held_octets r.long_updates) < 65536
    → result_in (set_contents r) ≡ some (capturing [] [] [] r.updates r.update_errors r.long_updates)
unfolding result_in set_contents then_read
result-back r g h k l =
    let longs = long_octets r.long_updates in
    rw (
      count_front short_octets (front_held 1) GoodShort short_front r.updates (length r.update_errors ∷ flat failed_octets r.update_errors ++ longs) g,
      count_front failed_octets (front_failed update_cause) (GoodCause update_cause) (failed_front update_cause) r.update_errors longs h,
      longs_back r.long_updates k l,
    )

-- ---- elements

element_spelling : (id : ℕ) (c : List ℕ) → length_octets id ≡ 2 → element id true c ≡ spelling (record { id = id; contents = c })
unfolding element spelling length_spelt
element_spelling id c w = rw w

element-long : (id : ℕ) (c : List ℕ) → length (element id true c) ≡ 3 + length c
unfolding element be16
element-long id c = omega arith

-- an element is walked where it is needed
element-walked : (k : Elements (Option (List ℕ))) (id : ℕ) (b : Bool) (c t : List ℕ) → length_octets id ≡ 2 → length (element id b c) < 65536
    → walk_from kept_of k (element id b c ++ t) ≡ walk_from kept_of (cond b (keeping k id (some c)) k) t
element-walked k id true c t w h =
    ap (λ (s : List ℕ). walk_from kept_of k (s ++ t)) (element_spelling id c w)
    ∙ walk-element kept_of k (record { id = id; contents = c }) t (rw w (omega (arith, element-long id c)))
element-walked k id false c t w h = unfold element in refl

-- what is kept of the three of a reply, one after another
abbrev kept1 : Bool → List ℕ → Elements (Option (List ℕ))
kept1 b x = cond b (keeping unread 0x70 (some x)) unread

abbrev kept2 : Bool → Bool → List ℕ → List ℕ → Elements (Option (List ℕ))
kept2 b d x y = cond d (keeping (kept1 b x) 0x71 (some y)) (kept1 b x)

abbrev kept3 : Bool → Bool → Bool → List ℕ → List ℕ → List ℕ → Elements (Option (List ℕ))
kept3 b d e x y z = cond e (keeping (kept2 b d x y) 0x72 (some z)) (kept2 b d x y)

three_walked : (b d e : Bool) (x y z : List ℕ) → length (element 0x70 b x) + length (element 0x71 d y) + length (element 0x72 e z) < 65536
    → elements_of kept_of none (element 0x70 b x ++ (element 0x71 d y ++ element 0x72 e z)) ≡ some (kept3 b d e x y z)
unfolding elements_of length_octets
three_walked b d e x y z h =
    element-walked unread 0x70 b x (element 0x71 d y ++ element 0x72 e z) refl (omega arith)
    ∙ element-walked (kept1 b x) 0x71 d y (element 0x72 e z) refl (omega arith)
    ∙ ap (walk_from kept_of (kept2 b d x y)) (sym (append-nil (element 0x72 e z)))
    ∙ element-walked (kept2 b d x y) 0x72 e z [] refl (omega arith)
    ∙ walk-nil kept_of (kept3 b d e x y z)

-- what is kept of them: those that are there
three_kept : (b d e : Bool) (x y z : List ℕ) → ((kept3 b d e x y z).names ≡ cond b (some x) none) × ((kept3 b d e x y z).status ≡ cond d (some y) none) × ((kept3 b d e x y z).result ≡ cond e (some z) none)
unfolding keeping is_read
three_kept true true true x y z = (refl, refl, refl)
three_kept true true false x y z = (refl, refl, refl)
three_kept true false true x y z = (refl, refl, refl)
three_kept true false false x y z = (refl, refl, refl)
three_kept false true true x y z = (refl, refl, refl)
three_kept false true false x y z = (refl, refl, refl)
three_kept false false true x y z = (refl, refl, refl)
three_kept false false false x y z = (refl, refl, refl)

-- ---- a reply

names-told : (p : ℕ) (b : Bool) → of_element names_in (cond b (some (all_names p)) none) ≡ some (capturing (cond b (names_of p) []) [] [] [] [] [])
unfolding of_element
names-told p true = names-back p
names-told p false = refl

-- where an element is not needed there is nothing to tell
no_status : (vs : List Held) (es : List Failed) → (nonempty vs || nonempty es) ≡ false → no_capture ≡ capturing [] vs es [] [] []
no_status [] [] e = refl
no_status [] (x ∷ es) e = absurd (false≢true (sym e))
no_status (x ∷ vs) es e = absurd (false≢true (sym e))

no_result : (us : List Held) (es : List Failed) (ls : List Held) → (nonempty us || (nonempty es || nonempty ls)) ≡ false → no_capture ≡ capturing [] [] [] us es ls
no_result [] [] [] e = refl
no_result [] [] (x ∷ ls) e = absurd (false≢true (sym e))
no_result [] (x ∷ es) ls e = absurd (false≢true (sym e))
no_result (x ∷ us) es ls e = absurd (false≢true (sym e))

long-flat : (l : List Held) → length (flat held_octets l) ≤ length (long_octets l)
unfolding flat long_octets be16
long-flat [] = omega arith
long-flat (x ∷ l) = omega arith

module _ (p : ℕ) (r : Records) (g : Readable r) (short : length (complete p r) ≤ 4096) where
  long-short : any_set r ≡ true → length (flat held_octets r.long_updates) < 65536
  long-short e =
      let l : length (element 0x72 (any_set r) (set_contents r)) ≡ 3 + length (set_contents r) = rw e (element-long 0x72 (set_contents r)) in
      omega (arith, l, short, complete-length p r, set-length r, long-flat r.long_updates)

  status-told : of_element status_in (cond (any_read r) (some (read_contents r)) none) ≡ some (capturing [] r.values r.read_errors [] [] [])
  unfolding of_element
  status-told = go (any_read r) refl
    where
      go : (b : Bool) → any_read r ≡ b → of_element status_in (cond b (some (read_contents r)) none) ≡ some (capturing [] r.values r.read_errors [] [] [])
      go true e = status-back r g.values g.read_errors
      go false e = ap (λ (c : Capture). some c) (no_status r.values r.read_errors e)

  result-told : of_element result_in (cond (any_set r) (some (set_contents r)) none) ≡ some (capturing [] [] [] r.updates r.update_errors r.long_updates)
  unfolding of_element
  result-told = go (any_set r) refl
    where
      go : (b : Bool) → any_set r ≡ b → of_element result_in (cond b (some (set_contents r)) none) ≡ some (capturing [] [] [] r.updates r.update_errors r.long_updates)
      go true e = result-back r g.updates g.update_errors g.long_updates (long-short e)
      go false e = ap (λ (c : Capture). some c) (no_result r.updates r.update_errors r.long_updates e)

  reply-contained : contained (complete p r) ≡ some (told p r)
  unfolding contained complete is_reply in_reply of_elements then_read told
  reply-contained =
      let k = three_kept r.capabilities (any_read r) (any_set r) (all_names p) (read_contents r) (set_contents r) in
      rw (
        three_walked r.capabilities (any_read r) (any_set r) (all_names p) (read_contents r) (set_contents r) (omega (arith, complete-length p r, short)),
        k.0,
        k.1,
        k.2,
        names-told p r.capabilities,
        status-told,
        result-told,
      )
      (simp append-nil)

  -- the reader accepts the reply and gives its records
  pub complete_reads : capture (complete p r) ≡ record { number = 0; records = told p r }
  unfolding capture capture_checks first_failed when_passed or_nothing
  complete_reads =
      let l : 1 ≤ length (complete p r) = omega (arith, complete-length p r) in
      let i : is_reply (complete p r) ≡ true = unfold is_reply complete in refl in
      rw (le-leb 1 (length (complete p r)) l, le-leb (length (complete p r)) 4096 short, i, reply-contained)

-- ---- a command that is carried out

-- the records that answer operations read as themselves: a name and a length have two octets, a short update's length one, and every cause is one
-- that is told
readable : (p : ℕ) → {m : List ℕ} {os : List Op} {r : Records} → Answered p m os r → Good r → Readable r
unfolding read_cause update_cause
readable p end g = record { values = tt; read_errors = tt; updates = tt; update_errors = tt; long_updates = tt }
readable p (lists_names a) g =
    let c = readable p a (record { values = g.values; read_errors = g.read_errors; updates = g.updates; update_errors = g.update_errors; long_updates = g.long_updates }) in
    record { values = c.values; read_errors = c.read_errors; updates = c.updates; update_errors = c.update_errors; long_updates = c.long_updates }
readable p (reads_value e f a) g =
    let c = readable p a (record { values = g.values.1; read_errors = g.read_errors; updates = g.updates; update_errors = g.update_errors; long_updates = g.long_updates }) in
    record { values = (g.values.0, c.values); read_errors = c.read_errors; updates = c.updates; update_errors = c.update_errors; long_updates = c.long_updates }
readable p (reads_unlisted e a) g =
    let c = readable p a (record { values = g.values; read_errors = g.read_errors.1; updates = g.updates; update_errors = g.update_errors; long_updates = g.long_updates }) in
    record { values = c.values; read_errors = ((g.read_errors.0, refl), c.read_errors); updates = c.updates; update_errors = c.update_errors; long_updates = c.long_updates }
readable p (reads_absent e f a) g =
    let c = readable p a (record { values = g.values; read_errors = g.read_errors.1; updates = g.updates; update_errors = g.update_errors; long_updates = g.long_updates }) in
    record { values = c.values; read_errors = ((g.read_errors.0, absent-read p), c.read_errors); updates = c.updates; update_errors = c.update_errors; long_updates = c.long_updates }
readable p (sets_short e f a) g =
    let c = readable p a (record { values = g.values; read_errors = g.read_errors; updates = g.updates.1; update_errors = g.update_errors; long_updates = g.long_updates }) in
    record { values = c.values; read_errors = c.read_errors; updates = ((g.updates.0.0, omega (arith, f)), c.updates); update_errors = c.update_errors; long_updates = c.long_updates }
readable p (sets_long e f a) g =
    let c = readable p a (record { values = g.values; read_errors = g.read_errors; updates = g.updates; update_errors = g.update_errors; long_updates = g.long_updates.1 }) in
    record { values = c.values; read_errors = c.read_errors; updates = c.updates; update_errors = c.update_errors; long_updates = (g.long_updates.0, c.long_updates) }
readable p (sets_unlisted e a) g =
    let c = readable p a (record { values = g.values; read_errors = g.read_errors; updates = g.updates; update_errors = g.update_errors.1; long_updates = g.long_updates }) in
    record { values = c.values; read_errors = c.read_errors; updates = c.updates; update_errors = ((g.update_errors.0, refl), c.update_errors); long_updates = c.long_updates }
readable p (sets_foreign e f a) g =
    let c = readable p a (record { values = g.values; read_errors = g.read_errors; updates = g.updates; update_errors = g.update_errors.1; long_updates = g.long_updates }) in
    record { values = c.values; read_errors = c.read_errors; updates = c.updates; update_errors = ((g.update_errors.0, refl), c.update_errors); long_updates = c.long_updates }
readable p (sets_too_long e f h a) g =
    let c = readable p a (record { values = g.values; read_errors = g.read_errors; updates = g.updates; update_errors = g.update_errors.1; long_updates = g.long_updates }) in
    record { values = c.values; read_errors = c.read_errors; updates = c.updates; update_errors = ((g.update_errors.0, refl), c.update_errors); long_updates = c.long_updates }
readable p (sets_wrong e f t h a) g =
    let c = readable p a (record { values = g.values; read_errors = g.read_errors; updates = g.updates; update_errors = g.update_errors.1; long_updates = g.long_updates }) in
    record { values = c.values; read_errors = c.read_errors; updates = c.updates; update_errors = ((g.update_errors.0, refl), c.update_errors); long_updates = c.long_updates }
readable p (subscribes a) g = readable p a g
readable p (unsubscribes a) g = readable p a g
readable p (reads_selected a) g =
    let c = readable p a (record { values = g.values; read_errors = g.read_errors.1; updates = g.updates; update_errors = g.update_errors; long_updates = g.long_updates }) in
    record { values = c.values; read_errors = ((g.read_errors.0, refl), c.read_errors); updates = c.updates; update_errors = c.update_errors; long_updates = c.long_updates }
readable p (subscribes_selected a) g = readable p a g
readable p (unsubscribes_selected a) g = readable p a g
readable p (deletes_entry a) g =
    let c = readable p a (record { values = g.values; read_errors = g.read_errors; updates = g.updates; update_errors = g.update_errors.1; long_updates = g.long_updates }) in
    record { values = c.values; read_errors = c.read_errors; updates = c.updates; update_errors = ((g.update_errors.0, refl), c.update_errors); long_updates = c.long_updates }

module _ (p : ℕ) (m s room : List ℕ) (o : Octets s) (c : is_command s ≡ true) (n : (message p m s room).number ≡ 0) where
  -- its reply reads back: the records that were answered, kind by kind, and the names of the profile exactly if capabilities were asked
  pub message_reads : capture (message p m s room).written ≡ record { number = 0; records = told p (records p m (ops_of p s)) }
  message_reads =
      let a = carried_accepted p m s room c n in
      let r = records p m (ops_of p s) in
      let w : (message p m s room).written ≡ complete p r = ap (λ (x : Outcome). x.written) (accepted_call p m s room (ops_of p s) a) in
      let g : Readable r = readable p (answered p m (ops_of p s)) (records_good p m (ops_of p s) (whole_fine p m s room o c n)) in
      ap capture w ∙ complete_reads p r g a.fit.in_limit

-- ---- a notification that is built

pending_causes : (p : ℕ) (m : List ℕ) (k : ℕ) → k ≤ entry_count → Each (GoodCause read_cause) (pending_errors p m k)
unfolding pending_errors read_cause
pending_causes p m zero h = tt
pending_causes p m (suc k) h =
    each_append (GoodCause read_cause) (pending_errors p m k) (cond (pending m k && not (present m k)) (failed (row_at k).name (cause_absent p)) []) (pending_causes p m k (omega arith)) (go (pending m k && not (present m k)))
  where
    go : (b : Bool) → Each (GoodCause read_cause) (cond b (failed (row_at k).name (cause_absent p)) [])
    go true = ((name-small k (omega arith), absent-read p), tt)
    go false = tt

notification-long : (p : ℕ) (m : List ℕ) → length (notification p m) ≡ 3 + length (read_contents (gathered (reports p m entry_count)))
unfolding notification be16
notification-long p m = omega arith

module _ (p : ℕ) (m : List ℕ) (s : sound m ≡ true) where
  notification-contained : contained (notification p m) ≡ some (capturing [] (pending_values m entry_count) (pending_errors p m entry_count) [] [] [])
  unfolding contained notification is_reply
  notification-contained =
      let r = gathered (reports p m entry_count) in
      let said = reports_say p m entry_count in
      let l : length (read_contents r) < 65536 = omega (arith, notification-long p m, notification-most p m s) in
      ap (λ (c : List ℕ). in_notification (be16 (length (read_contents r)) ++ c)) (sym (append-nil (read_contents r)))
      ∙ contents_alone (read_contents r) [] l
      ∙ status-back r (reports_are p m entry_count (omega arith)).good.values (rw said.1 (pending_causes p m entry_count (omega arith)))
      ∙ rw (said.0, said.1)

  -- it reads back: the records of the pending names
  pub notification_reads : capture (notification p m) ≡ record { number = 0; records = capturing [] (pending_values m entry_count) (pending_errors p m entry_count) [] [] [] }
  unfolding capture capture_checks first_failed when_passed or_nothing
  notification_reads =
      let h = notification-head p m s in
      let l : 1 ≤ length (notification p m) = omega (arith, h.1) in
      let b : length (notification p m) ≤ 4096 = omega (arith, notification-most p m s) in
      let i : is_reply (notification p m) ≡ false = unfold is_reply in rw h.0 in
      let j : is_notification (notification p m) ≡ true = unfold is_notification in rw h.0 in
      rw (le-leb 1 (length (notification p m)) l, le-leb (length (notification p m)) 4096 b, i, j, notification-contained)

pub build_reads : (p : ℕ) (m room : List ℕ) → (build p m room).number ≡ 0
    → capture (build p m room).written ≡ record { number = 0; records = capturing [] (pending_values m entry_count) (pending_errors p m entry_count) [] [] [] }
unfolding build build_checks
build_reads p m room n =
    let q : first_failed (build_checks p m (length room)) ≡ 0 = call-passed (build_checks p m (length room)) _ m room n in
    let w : build p m room ≡ done (notification p m) (turned when_sent entry_count (set_timer m 1 0)) room = call-done (build_checks p m (length room)) _ m room q in
    ap (λ (x : Outcome). capture x.written) w ∙ notification_reads p m (in_sound p m (first-passed 0 _ _ q).0)
