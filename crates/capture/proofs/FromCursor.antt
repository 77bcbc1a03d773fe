-- From a cursor that holds some records, whole, these are handed out in their order, and then the end.
use Prim.Native.Nat.{ℕ, zero, suc, ◌-◌, ◌≤◌, ◌<◌}
use native.Mathlib.Decide.{dec_le}
use native.Mathlib.Omega.{arith}
use mathlib.Core.Path.{◌≡◌, sym, ap, ◌∙◌}
use mathlib.Core.List.{List, [], ◌∷◌}
use mathlib.Core.Option.{Option, none, some}
use lib.ListN.{length}
use Rattle.std.specs.Prelude.{Some, None, Ok, Err}
use Rattle.meaning.specs.Octets.{part}
use Rattle.meaning.specs.Reply.{Held, Failed}
use Rattle.meaning.specs.Capture.{Capture, capturing, OneRecord, a_name, a_value, a_read_error, an_update, an_update_error, a_long_update, in_order, front_name, front_held, front_failed, read_cause, update_cause}
use Rattle.meaning.proofs.Lists.{length_part}
use Rattle.contents.specs.Spans.{span, octets_of}
use Rattle.contents.specs.declared.Span.{Span}
use Rattle.contents.proofs.Between.{between}
use Rattle.contents.proofs.Onward.{held_leaves}
use Rattle.capture.specs.declared.Cursor.{Cursor}
use Rattle.capture.specs.declared.Record.{Record}
use Rattle.capture.specs.declared.Record.TheVariants.{Name, Value, ReadError, Update, UpdateError, LongUpdate}
use Rattle.capture.specs.Opening.{cursor}
use Rattle.capture.specs.Handing.{Handed, handed, the_end, record_of, Inside, handing, valued, failed, handed_name, handed_value, handed_read_error, handed_update, handed_update_error, handed_long_update, handed_at}
use Rattle.capture.proofs.Handouts.{nothing_next}
use Rattle.capture.proofs.Handouts as handouts
use Rattle.capture.proofs.OneKind.{Standing, Anywhere, name_placing, failed_placing, held_placing, name_leaves, failed_leaves, Whole, First, none_left, first_left}

-- ---- one record more

-- the cursor holds exactly these records, whole, each kind in its span
pub record Holds (s : List ℕ) (c : Cursor) (r : Capture) : Type 0 where
  pub names : Whole front_name s c.names r.names
  pub values : Whole (front_held 2) s c.values r.values
  pub read_errors : Whole (front_failed read_cause) s c.read_errors r.read_errors
  pub updates : Whole (front_held 1) s c.updates r.updates
  pub update_errors : Whole (front_failed update_cause) s c.update_errors r.update_errors
  pub long_updates : Whole (front_held 2) s c.long_updates r.long_updates

-- what comes next of the records r: one of them, and a cursor that holds the others; or there is none
pub data Next (s : List ℕ) (c : Cursor) (r : Capture) : Type 0 where
  ends : handed_at s c ≡ the_end → in_order r ≡ [] → Next s c r
  hands : (one : Record) (c' : Cursor) (r' : Capture) → handed_at s c ≡ handed one c' → in_order r ≡ record_of s one ∷ in_order r' → Holds s c' r' → Inside s one → Next s c r

-- as many octets as the span of a value has stand there in the message
pub inside-whole : (s : List ℕ) (n : ℕ) (p : Span)
    → (Inside s (Value n p) → length (octets_of s p) ≡ p.to - p.from) × (Inside s (Update n p) → length (octets_of s p) ≡ p.to - p.from) × (Inside s (LongUpdate n p) → length (octets_of s p) ≡ p.to - p.from)
unfolding octets_of
inside-whole s n p =
    let whole = λ (i : (p.from ≤ p.to) × (p.to ≤ length s)). length_part s p.from (p.to - p.from) (omega (arith, i.0, i.1)) in
    (whole, whole, whole)

-- the first record of a span that has octets left, put into a cursor
module _ {A : Type 0} {one : List ℕ → Option (A × List ℕ)} {P : A → ℕ → Type 0} {s : List ℕ} {p : Span} {l : List A} (f : First one P s p l) (make : ℕ → A → Record) (put : Span → Cursor) where
  handed_first_lem : handing make put p.to (some (f.first, between s f.end p.to)) ≡ handed (make f.end f.first) (put (span f.end p.to))
  unfolding handing
  handed_first_lem = rw f.place

-- the first in order is the first of the first kind that has any
module _ (r : Capture) where
  name-first : (a : ℕ) (l : List ℕ) → r.names ≡ a ∷ l → in_order r ≡ a_name a ∷ in_order (capturing l r.values r.read_errors r.updates r.update_errors r.long_updates)
  unfolding in_order
  name-first a l e = rw (e)

  value-first : (a : Held) (l : List Held) → r.names ≡ [] → r.values ≡ a ∷ l → in_order r ≡ a_value a ∷ in_order (capturing r.names l r.read_errors r.updates r.update_errors r.long_updates)
  unfolding in_order
  value-first a l e0 e = rw (e0, e)

  read_error_first : (a : Failed) (l : List Failed) → r.names ≡ [] → r.values ≡ [] → r.read_errors ≡ a ∷ l → in_order r ≡ a_read_error a ∷ in_order (capturing r.names r.values l r.updates r.update_errors r.long_updates)
  unfolding in_order
  read_error_first a l e0 e1 e = rw (e0, e1, e)

  update-first : (a : Held) (l : List Held) → r.names ≡ [] → r.values ≡ [] → r.read_errors ≡ [] → r.updates ≡ a ∷ l → in_order r ≡ an_update a ∷ in_order (capturing r.names r.values r.read_errors l r.update_errors r.long_updates)
  unfolding in_order
  update-first a l e0 e1 e2 e = rw (e0, e1, e2, e)

  update_error_first : (a : Failed) (l : List Failed) → r.names ≡ [] → r.values ≡ [] → r.read_errors ≡ [] → r.updates ≡ [] → r.update_errors ≡ a ∷ l → in_order r ≡ an_update_error a ∷ in_order (capturing r.names r.values r.read_errors r.updates l r.long_updates)
  unfolding in_order
  update_error_first a l e0 e1 e2 e3 e = rw (e0, e1, e2, e3, e)

  long-update-first : (a : Held) (l : List Held) → r.names ≡ [] → r.values ≡ [] → r.read_errors ≡ [] → r.updates ≡ [] → r.update_errors ≡ [] → r.long_updates ≡ a ∷ l → in_order r ≡ a_long_update a ∷ in_order (capturing r.names r.values r.read_errors r.updates r.update_errors l)
  unfolding in_order
  long-update-first a l e0 e1 e2 e3 e4 e = rw (e0, e1, e2, e3, e4, e)

-- a value that stands where its record says
standing_is : (s : List ℕ) (make : Held → OneRecord) (h : Held) (end : ℕ) → Standing s h end
    → make h ≡ make (record { name = h.name; value = octets_of s (span (end - length h.value) end) })
unfolding octets_of
standing_is s make h end e =
    let z : end - (end - length h.value) ≡ length h.value = omega (arith, e.1) in
    rw z (ap (λ (v : List ℕ). make (record { name = h.name; value = v })) (sym e.0))

module _ (s : List ℕ) (c : Cursor) (r : Capture) (h : Holds s c r) where
  -- a kind of which no octets are left has no records left
  no_name : c.names.to ≤ c.names.from → r.names ≡ []
  no_name = none_left front_name Anywhere s (name_placing s) name_leaves c.names r.names h.names

  no_value : c.values.to ≤ c.values.from → r.values ≡ []
  no_value = none_left (front_held 2) (Standing s) s (held_placing s 2 (omega arith)) (held_leaves 2) c.values r.values h.values

  no_read_error : c.read_errors.to ≤ c.read_errors.from → r.read_errors ≡ []
  no_read_error = none_left (front_failed read_cause) Anywhere s (failed_placing s read_cause) (failed_leaves read_cause) c.read_errors r.read_errors h.read_errors

  no_update : c.updates.to ≤ c.updates.from → r.updates ≡ []
  no_update = none_left (front_held 1) (Standing s) s (held_placing s 1 (omega arith)) (held_leaves 1) c.updates r.updates h.updates

  no_update_error : c.update_errors.to ≤ c.update_errors.from → r.update_errors ≡ []
  no_update_error = none_left (front_failed update_cause) Anywhere s (failed_placing s update_cause) (failed_leaves update_cause) c.update_errors r.update_errors h.update_errors

  no_long-update : c.long_updates.to ≤ c.long_updates.from → r.long_updates ≡ []
  no_long-update = none_left (front_held 2) (Standing s) s (held_placing s 2 (omega arith)) (held_leaves 2) c.long_updates r.long_updates h.long_updates

  name-next : c.names.from < c.names.to → Next s c r
  unfolding record_of in_order handed_name
  name-next lt =
      let f = first_left front_name Anywhere s (name_placing s) name_leaves c.names r.names h.names lt in
      hands (Name f.first) (cursor (span f.end c.names.to) c.values c.read_errors c.updates c.update_errors c.long_updates) (capturing f.others r.values r.read_errors r.updates r.update_errors r.long_updates)
      (sym (handouts.name-next s c lt)
      ∙ ap (handing (λ end n. Name n) (λ p. cursor p c.values c.read_errors c.updates c.update_errors c.long_updates) c.names.to) f.front
      ∙ handed_first_lem f (λ end n. Name n) (λ p. cursor p c.values c.read_errors c.updates c.update_errors c.long_updates))
      (name-first r f.first f.others f.listed)
      (record { names = f.rest; values = h.values; read_errors = h.read_errors; updates = h.updates; update_errors = h.update_errors; long_updates = h.long_updates })
      tt

  value-next : (e0 : c.names.to ≤ c.names.from) → c.values.from < c.values.to → Next s c r
  unfolding record_of in_order handed_value valued
  value-next e0 lt =
      let f = first_left (front_held 2) (Standing s) s (held_placing s 2 (omega arith)) (held_leaves 2) c.values r.values h.values lt in
      hands (Value f.first.name (span (f.end - length f.first.value) f.end)) (cursor c.names (span f.end c.values.to) c.read_errors c.updates c.update_errors c.long_updates) (capturing r.names f.others r.read_errors r.updates r.update_errors r.long_updates)
      (sym (handouts.value-next s c e0 lt)
      ∙ ap (handing (valued Value) (λ p. cursor c.names p c.read_errors c.updates c.update_errors c.long_updates) c.values.to) f.front
      ∙ handed_first_lem f (valued Value) (λ p. cursor c.names p c.read_errors c.updates c.update_errors c.long_updates))
      (value-first r f.first f.others (no_name e0) f.listed ∙ ap (λ (x : OneRecord). x ∷ in_order (capturing r.names f.others r.read_errors r.updates r.update_errors r.long_updates)) (standing_is s a_value f.first f.end f.placed))
      (record { names = h.names; values = f.rest; read_errors = h.read_errors; updates = h.updates; update_errors = h.update_errors; long_updates = h.long_updates })
      (omega arith, f.placed.2)

  read_error_next : (e0 : c.names.to ≤ c.names.from) (e1 : c.values.to ≤ c.values.from) → c.read_errors.from < c.read_errors.to → Next s c r
  unfolding record_of in_order handed_read_error failed
  read_error_next e0 e1 lt =
      let f = first_left (front_failed read_cause) Anywhere s (failed_placing s read_cause) (failed_leaves read_cause) c.read_errors r.read_errors h.read_errors lt in
      hands (ReadError f.first.name f.first.cause) (cursor c.names c.values (span f.end c.read_errors.to) c.updates c.update_errors c.long_updates) (capturing r.names r.values f.others r.updates r.update_errors r.long_updates)
      (sym (handouts.read_error_next s c e0 e1 lt)
      ∙ ap (handing (failed ReadError) (λ p. cursor c.names c.values p c.updates c.update_errors c.long_updates) c.read_errors.to) f.front
      ∙ handed_first_lem f (failed ReadError) (λ p. cursor c.names c.values p c.updates c.update_errors c.long_updates))
      (read_error_first r f.first f.others (no_name e0) (no_value e1) f.listed)
      (record { names = h.names; values = h.values; read_errors = f.rest; updates = h.updates; update_errors = h.update_errors; long_updates = h.long_updates })
      tt

  update-next : (e0 : c.names.to ≤ c.names.from) (e1 : c.values.to ≤ c.values.from) (e2 : c.read_errors.to ≤ c.read_errors.from) → c.updates.from < c.updates.to → Next s c r
  unfolding record_of in_order handed_update valued
  update-next e0 e1 e2 lt =
      let f = first_left (front_held 1) (Standing s) s (held_placing s 1 (omega arith)) (held_leaves 1) c.updates r.updates h.updates lt in
      hands (Update f.first.name (span (f.end - length f.first.value) f.end)) (cursor c.names c.values c.read_errors (span f.end c.updates.to) c.update_errors c.long_updates) (capturing r.names r.values r.read_errors f.others r.update_errors r.long_updates)
      (sym (handouts.update-next s c e0 e1 e2 lt)
      ∙ ap (handing (valued Update) (λ p. cursor c.names c.values c.read_errors p c.update_errors c.long_updates) c.updates.to) f.front
      ∙ handed_first_lem f (valued Update) (λ p. cursor c.names c.values c.read_errors p c.update_errors c.long_updates))
      (update-first r f.first f.others (no_name e0) (no_value e1) (no_read_error e2) f.listed ∙ ap (λ (x : OneRecord). x ∷ in_order (capturing r.names r.values r.read_errors f.others r.update_errors r.long_updates)) (standing_is s an_update f.first f.end f.placed))
      (record { names = h.names; values = h.values; read_errors = h.read_errors; updates = f.rest; update_errors = h.update_errors; long_updates = h.long_updates })
      (omega arith, f.placed.2)

  update_error_next : (e0 : c.names.to ≤ c.names.from) (e1 : c.values.to ≤ c.values.from) (e2 : c.read_errors.to ≤ c.read_errors.from) (e3 : c.updates.to ≤ c.updates.from) → c.update_errors.from < c.update_errors.to → Next s c r
  unfolding record_of in_order handed_update_error failed
  update_error_next e0 e1 e2 e3 lt =
      let f = first_left (front_failed update_cause) Anywhere s (failed_placing s update_cause) (failed_leaves update_cause) c.update_errors r.update_errors h.update_errors lt in
      hands (UpdateError f.first.name f.first.cause) (cursor c.names c.values c.read_errors c.updates (span f.end c.update_errors.to) c.long_updates) (capturing r.names r.values r.read_errors r.updates f.others r.long_updates)
      (sym (handouts.update_error_next s c e0 e1 e2 e3 lt)
      ∙ ap (handing (failed UpdateError) (λ p. cursor c.names c.values c.read_errors c.updates p c.long_updates) c.update_errors.to) f.front
      ∙ handed_first_lem f (failed UpdateError) (λ p. cursor c.names c.values c.read_errors c.updates p c.long_updates))
      (update_error_first r f.first f.others (no_name e0) (no_value e1) (no_read_error e2) (no_update e3) f.listed)
      (record { names = h.names; values = h.values; read_errors = h.read_errors; updates = h.updates; update_errors = f.rest; long_updates = h.long_updates })
      tt

  long-update-next : (e0 : c.names.to ≤ c.names.from) (e1 : c.values.to ≤ c.values.from) (e2 : c.read_errors.to ≤ c.read_errors.from) (e3 : c.updates.to ≤ c.updates.from) (e4 : c.update_errors.to ≤ c.update_errors.from) → c.long_updates.from < c.long_updates.to → Next s c r
  unfolding record_of in_order handed_long_update valued
  long-update-next e0 e1 e2 e3 e4 lt =
      let f = first_left (front_held 2) (Standing s) s (held_placing s 2 (omega arith)) (held_leaves 2) c.long_updates r.long_updates h.long_updates lt in
      hands (LongUpdate f.first.name (span (f.end - length f.first.value) f.end)) (cursor c.names c.values c.read_errors c.updates c.update_errors (span f.end c.long_updates.to)) (capturing r.names r.values r.read_errors r.updates r.update_errors f.others)
      (sym (handouts.long-update-next s c e0 e1 e2 e3 e4 lt)
      ∙ ap (handing (valued LongUpdate) (λ p. cursor c.names c.values c.read_errors c.updates c.update_errors p) c.long_updates.to) f.front
      ∙ handed_first_lem f (valued LongUpdate) (λ p. cursor c.names c.values c.read_errors c.updates c.update_errors p))
      (long-update-first r f.first f.others (no_name e0) (no_value e1) (no_read_error e2) (no_update e3) (no_update_error e4) f.listed ∙ ap (λ (x : OneRecord). x ∷ in_order (capturing r.names r.values r.read_errors r.updates r.update_errors f.others)) (standing_is s a_long_update f.first f.end f.placed))
      (record { names = h.names; values = h.values; read_errors = h.read_errors; updates = h.updates; update_errors = h.update_errors; long_updates = f.rest })
      (omega arith, f.placed.2)

  none_next : c.names.to ≤ c.names.from → c.values.to ≤ c.values.from → c.read_errors.to ≤ c.read_errors.from → c.updates.to ≤ c.updates.from → c.update_errors.to ≤ c.update_errors.from → c.long_updates.to ≤ c.long_updates.from → Next s c r
  unfolding in_order
  none_next e0 e1 e2 e3 e4 e5 =
      ends
      (sym (nothing_next s c e0 e1 e2 e3 e4 e5))
      (rw (no_name e0, no_value e1, no_read_error e2, no_update e3, no_update_error e4, no_long-update e5))

  pub next : Next s c r
  next = at_name (dec_le c.names.to c.names.from)
    where
      at_long-update : c.names.to ≤ c.names.from → c.values.to ≤ c.values.from → c.read_errors.to ≤ c.read_errors.from → c.updates.to ≤ c.updates.from → c.update_errors.to ≤ c.update_errors.from → Dec (c.long_updates.to ≤ c.long_updates.from) → Next s c r
      at_long-update e0 e1 e2 e3 e4 (no l) = long-update-next e0 e1 e2 e3 e4 (omega arith)
      at_long-update e0 e1 e2 e3 e4 (yes l) = none_next e0 e1 e2 e3 e4 l

      at_update_error : c.names.to ≤ c.names.from → c.values.to ≤ c.values.from → c.read_errors.to ≤ c.read_errors.from → c.updates.to ≤ c.updates.from → Dec (c.update_errors.to ≤ c.update_errors.from) → Next s c r
      at_update_error e0 e1 e2 e3 (no l) = update_error_next e0 e1 e2 e3 (omega arith)
      at_update_error e0 e1 e2 e3 (yes l) = at_long-update e0 e1 e2 e3 l (dec_le c.long_updates.to c.long_updates.from)

      at_update : c.names.to ≤ c.names.from → c.values.to ≤ c.values.from → c.read_errors.to ≤ c.read_errors.from → Dec (c.updates.to ≤ c.updates.from) → Next s c r
      at_update e0 e1 e2 (no l) = update-next e0 e1 e2 (omega arith)
      at_update e0 e1 e2 (yes l) = at_update_error e0 e1 e2 l (dec_le c.update_errors.to c.update_errors.from)

      at_read_error : c.names.to ≤ c.names.from → c.values.to ≤ c.values.from → Dec (c.read_errors.to ≤ c.read_errors.from) → Next s c r
      at_read_error e0 e1 (no l) = read_error_next e0 e1 (omega arith)
      at_read_error e0 e1 (yes l) = at_update e0 e1 l (dec_le c.updates.to c.updates.from)

      at_value : c.names.to ≤ c.names.from → Dec (c.values.to ≤ c.values.from) → Next s c r
      at_value e0 (no l) = value-next e0 (omega arith)
      at_value e0 (yes l) = at_read_error e0 l (dec_le c.read_errors.to c.read_errors.from)

      at_name : Dec (c.names.to ≤ c.names.from) → Next s c r
      at_name (no l) = name-next (omega arith)
      at_name (yes l) = at_value l (dec_le c.values.to c.values.from)

-- ---- one after another

unfoldable pub with_record : OneRecord → Option (List OneRecord) → Option (List OneRecord)
with_record x none = none
with_record x (some l) = some (x ∷ l)

-- by one answer: a record and those that are handed out from the cursor behind it, no more at the end, and none where the message is refused
unfoldable pub onward : List ℕ → Handed → (Cursor → Option (List OneRecord)) → Option (List OneRecord)
onward s (Ok (Some h)) rest = with_record (record_of s h.0) (rest h.1)
onward s (Ok None) rest = some []
onward s (Err e) rest = none

-- the records of the message s, handed out one after another from a cursor by n calls, where f says what is answered at each cursor; none where
-- the n calls do not reach the end
unfoldable pub handed_out : List ℕ → (Cursor → Handed) → ℕ → Cursor → Option (List OneRecord)
handed_out s f zero c = none
handed_out s f (suc n) c = onward s (f c) (handed_out s f n)

module _ (s : List ℕ) (f : Cursor → Handed) (each : (c : Cursor) → f c ≡ handed_at s c) where
  one_more : (c : Cursor) (r : Capture) (rest : Cursor → Option (List OneRecord)) → Next s c r
      → ((c' : Cursor) (r' : Capture) → Holds s c' r' → length (in_order r') < length (in_order r) → rest c' ≡ some (in_order r')) → onward s (handed_at s c) rest ≡ some (in_order r)
  unfolding onward with_record
  one_more c r rest (ends e o) k = rw (e, o)
  one_more c r rest (hands one c' r' e o h i) k = rw (e, o, k c' r' h (omega (arith, ap length o)))

  -- from a cursor that holds these records, by any number of calls above theirs
  pub from-cursor : (n : ℕ) (c : Cursor) (r : Capture) → Holds s c r → length (in_order r) < n → handed_out s f n c ≡ some (in_order r)
  unfolding handed_out
  from-cursor zero c r h l = absurd (omega arith)
  from-cursor (suc n) c r h l = rw (each c) (one_more c r (handed_out s f n) (next s c r h) (λ c' r' h' l'. from-cursor n c' r' h' (omega (arith, l, l'))))
