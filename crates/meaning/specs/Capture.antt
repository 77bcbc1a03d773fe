-- Captured messages (RULES 20): a total function from octets to a number and the records of each kind. What may be cut short is an
-- `Option`: none where it is.
use Rattle.std.specs.Prelude.{ℕ, zero, suc, ◌+◌, Bool, true, false, ◌&&◌, ◌||◌, not, cond, List, [], ◌∷◌, ◌++◌, map, length, take, drop, eqb, leb, ltb}
use Rattle.std.proofs.Math.Option.{Option, none, some}
use Rattle.meaning.specs.Octets.{octet, at16, part, nonempty}
use Rattle.meaning.specs.Checks.{Checks, passed, check, first_failed, when_passed}
use Rattle.meaning.specs.Wire.{type_complete, type_notify, element_capability, element_status, element_update_result, cause_not_supported, cause_invalid_value, cause_unavailable, cause_protocol_error, reply_most}
use Rattle.meaning.specs.Block.{as_number}
use Rattle.meaning.specs.Reply.{Held, Failed}

-- ---- what is read

-- what a captured message tells, by kind: names that it lists, values, errors
pub record Capture : Type 0 where
  pub names : List ℕ
  pub values : List Held
  pub read_errors : List Failed
  pub updates : List Held
  pub update_errors : List Failed
  pub long_updates : List Held

abbrev pub capturing : List ℕ → List Held → List Failed → List Held → List Failed → List Held → Capture
capturing n v e u f l =
    record { names = n; values = v; read_errors = e; updates = u; update_errors = f; long_updates = l }

abbrev pub no_capture : Capture
no_capture = capturing [] [] [] [] [] []

-- joined kind by kind
abbrev pub merged : Capture → Capture → Capture
merged a b =
    record {
      names = a.names ++ b.names;
      values = a.values ++ b.values;
      read_errors = a.read_errors ++ b.read_errors;
      updates = a.updates ++ b.updates;
      update_errors = a.update_errors ++ b.update_errors;
      long_updates = a.long_updates ++ b.long_updates;
    }

-- one record, and all in the order in which they are handed out (RULES 20.22)
pub data OneRecord : Type 0 where
  a_name : ℕ → OneRecord
  a_value : Held → OneRecord
  a_read_error : Failed → OneRecord
  an_update : Held → OneRecord
  an_update_error : Failed → OneRecord
  a_long_update : Held → OneRecord

unfoldable pub in_order : Capture → List OneRecord
in_order c =
    map a_name c.names
    ++ (map a_value c.values
    ++ (map a_read_error c.read_errors
    ++ (map an_update c.updates
    ++ (map an_update_error c.update_errors
    ++ map a_long_update c.long_updates))))

-- ---- what may be cut short

-- what is made of something that is there
unfoldable pub then_read : {A B : Type 0} → Option A → (A → Option B) → Option B
then_read none f = none
then_read (some a) f = f a

abbrev pub is_there : {A : Type 0} → Option A → Bool
is_there none = false
is_there (some a) = true

-- a length of w octets and as many octets as it says, and the octets behind them (RULES 20.7, 20.8)
unfoldable pub sized : ℕ → List ℕ → Option (List ℕ × List ℕ)
sized w s =
    let n = as_number (take w s) in
    cond (leb (w + n) (length s)) (some (part s w n, drop (w + n) s)) none

-- one record at the front of octets, and the octets behind it: a name; a name and a value with a length of w octets; a name and a cause
unfoldable pub front_name : List ℕ → Option (ℕ × List ℕ)
front_name s = cond (leb 2 (length s)) (some (at16 s 0, drop 2 s)) none

unfoldable pub front_held : ℕ → List ℕ → Option (Held × List ℕ)
front_held w s = then_read (sized w (drop 2 s)) (λ v. some (record { name = at16 s 0; value = v.0 }, v.1))

unfoldable pub front_failed : (ℕ → ℕ) → List ℕ → Option (Failed × List ℕ)
front_failed cause s = cond (leb 3 (length s)) (some (record { name = at16 s 0; cause = cause (octet s 2) }, drop 3 s)) none

-- causes that are not told read as a protocol error (RULES 20.17, 20.18)
unfoldable pub update_cause : ℕ → ℕ
update_cause c = cond (eqb c cause_not_supported || eqb c cause_invalid_value) c cause_protocol_error

unfoldable pub read_cause : ℕ → ℕ
read_cause c = cond (eqb c cause_unavailable) c (update_cause c)

-- n records, each read by `one`, and the octets behind them
unfoldable pub several : {A : Type 0} → (List ℕ → Option (A × List ℕ)) → ℕ → List ℕ → Option (List A × List ℕ)
several one zero s = some ([], s)
several one (suc n) s = then_read (one s) (λ a. then_read (several one n a.1) (λ as'. some (a.0 ∷ as'.0, as'.1)))

-- a count of one octet and that many records
unfoldable pub behind_count : {A : Type 0} → (List ℕ → Option (A × List ℕ)) → List ℕ → Option (List A × List ℕ)
behind_count one [] = none
behind_count one (n ∷ s) = several one n s

-- whole records up to the last octet; there are no more than octets
unfoldable pub until_end_in : {A : Type 0} → (List ℕ → Option (A × List ℕ)) → ℕ → List ℕ → Option (List A)
until_end_in one zero [] = some []
until_end_in one zero (x ∷ s) = none
until_end_in one (suc n) [] = some []
until_end_in one (suc n) (x ∷ s) = then_read (one (x ∷ s)) (λ a. then_read (until_end_in one n a.1) (λ as'. some (a.0 ∷ as')))

unfoldable pub until_end : {A : Type 0} → (List ℕ → Option (A × List ℕ)) → List ℕ → Option (List A)
until_end one s = until_end_in one (length s) s

-- what is there, if nothing is left over behind it
unfoldable pub exactly : {A : Type 0} → A × List ℕ → Option A
exactly r = cond (nonempty r.1) none (some r.0)

-- ---- contents (RULES 20.11 to 20.16)

unfoldable pub names_in : List ℕ → Option Capture
names_in s = then_read (until_end front_name s) (λ n. some (capturing n [] [] [] [] []))

-- of element 71, and of a notification
unfoldable pub status_in : List ℕ → Option Capture
status_in s =
    then_read (behind_count (front_held 2) s) (λ v.
    then_read (behind_count (front_failed read_cause) v.1) (λ e.
    exactly (capturing [] v.0 e.0 [] [] [], e.1)))

-- behind the errors of element 72: nothing, or a length and whole records
unfoldable pub longs_in : List ℕ → Option (List Held)
longs_in [] = some []
longs_in (x ∷ s) = then_read (sized 2 (x ∷ s)) (λ l. then_read (exactly l) (until_end (front_held 2)))

unfoldable pub result_in : List ℕ → Option Capture
result_in s =
    then_read (behind_count (front_held 1) s) (λ u.
    then_read (behind_count (front_failed update_cause) u.1) (λ f.
    then_read (longs_in f.1) (λ l. some (capturing [] [] [] u.0 f.0 l))))

-- ---- elements (RULES 20.5 to 20.10)

-- octets of the length behind an identifier
unfoldable pub length_octets : ℕ → ℕ
length_octets id = cond (leb 0x80 id) 0 (cond (leb 0x70 id) 2 1)

-- What is kept of the elements that are read, a C of each; the identifier of the highest of them, 0 before the first.
pub record Elements (C : Type 0) : Type 0 where
  pub highest : ℕ
  pub names : C
  pub status : C
  pub result : C

-- an element is read if it is known and above all that were read before it; others change nothing
unfoldable pub is_read : ℕ → ℕ → Bool
is_read highest id = ltb highest id && (leb element_capability id && leb id element_update_result)

unfoldable pub keeping : {C : Type 0} → Elements C → ℕ → C → Elements C
keeping k id c =
    cond (not (is_read k.highest id)) k
    (record {
      highest = id;
      names = cond (eqb id element_capability) c k.names;
      status = cond (eqb id element_status) c k.status;
      result = cond (eqb id element_update_result) c k.result;
    })

-- at most n elements walked; `keep` is what is kept of one, by its contents and the octets behind it
unfoldable pub elements_in : {C : Type 0} → (List ℕ → List ℕ → C) → ℕ → Elements C → List ℕ → Option (Elements C)
elements_in keep zero k [] = some k
elements_in keep zero k (id ∷ s) = none
elements_in keep (suc n) k [] = some k
elements_in keep (suc n) k (id ∷ s) =
    then_read (sized (length_octets id) s) (λ e. elements_in keep n (keeping k id (keep e.0 e.1)) e.1)

-- all elements of some octets: each takes one or more
unfoldable pub elements_of : {C : Type 0} → (List ℕ → List ℕ → C) → C → List ℕ → Option (Elements C)
elements_of keep absent s = elements_in keep (length s) (record { highest = 0; names = absent; status = absent; result = absent }) s

-- ---- a message

-- the records of an element that was read; none of one that was not
unfoldable pub of_element : (List ℕ → Option Capture) → Option (List ℕ) → Option Capture
of_element records none = some no_capture
of_element records (some c) = records c

unfoldable pub of_elements : Elements (Option (List ℕ)) → Option Capture
of_elements k =
    then_read (of_element names_in k.names) (λ n.
    then_read (of_element status_in k.status) (λ s.
    then_read (of_element result_in k.result) (λ r. some (merged n (merged s r)))))

-- the octets behind the type, of a reply and of a notification (RULES 20.10)
unfoldable pub in_reply : List ℕ → Option Capture
in_reply s = then_read (elements_of (λ c behind. some c) none s) of_elements

unfoldable pub in_notification : List ℕ → Option Capture
in_notification s = then_read (sized 2 s) (λ c. status_in c.0)

unfoldable pub is_reply : List ℕ → Bool
is_reply s = eqb (octet s 0) type_complete

unfoldable pub is_notification : List ℕ → Bool
is_notification s = eqb (octet s 0) type_notify

unfoldable pub contained : List ℕ → Option Capture
contained s = cond (is_reply s) (in_reply (drop 1 s)) (in_notification (drop 1 s))

-- in the order of RULES 20.4
unfoldable pub capture_checks : List ℕ → Checks
capture_checks s =
    check 2 (leb 1 (length s))
    (check 3 (leb (length s) reply_most)
    (check 13 (is_reply s || is_notification s)
    (check 14 (is_there (contained s)) passed)))

-- What reading gives: a number, and the records; none where the number is not 0 (RULES 20.3).
pub record Captured : Type 0 where
  pub number : ℕ
  pub records : Capture

unfoldable pub or_nothing : Option Capture → Capture
or_nothing none = no_capture
or_nothing (some c) = c

unfoldable pub capture : List ℕ → Captured
capture s =
    record {
      number = first_failed (capture_checks s);
      records = when_passed (first_failed (capture_checks s)) (or_nothing (contained s)) (λ n. no_capture);
    }
