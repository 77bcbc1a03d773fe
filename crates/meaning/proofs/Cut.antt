-- Law 5, the cut law: a command that is carried out may be cut into any number of non-empty commands sent in order. Each is
-- carried out, the final memory is the same to the octet, and the records of each kind are those of the partial replies joined. So it is in one
-- room, as demand 3 has it, and in a room of its own for each part, if none is shorter than the whole reply.
use Prim.Native.Nat.{ℕ, ◌+◌, ◌≤◌, ◌<◌}
use native.Mathlib.Omega.{arith}
use mathlib.Core.Path.{◌≡◌, refl, sym, ap, ap₂, ◌∙◌, subst}
use mathlib.Core.Bool.{true}
use mathlib.Core.Option.{some}
use mathlib.Core.List.{List, [], ◌∷◌, ◌++◌, map}
use lib.ListN.{length, length-append, length-take}
use lib.Seq.{take-length}
use Rattle.meaning.specs.Octets.{at16, be16, part, flat}
use Rattle.meaning.specs.Profile.{sound_in}
use Rattle.meaning.specs.Operation.{Op, parse, is_some, or_none}
use Rattle.meaning.specs.Step.{after, answers}
use Rattle.meaning.specs.Reply.{Records, no_records, joined, gathered, complete}
use Rattle.meaning.specs.Calls.{Outcome, done, is_command, length_field, operations, ops_of, records, message}
use Rattle.meaning.proofs.Lists.{Each, Octets, each_append, each_left, each_right, octets-part, flat_append}
use Rattle.meaning.proofs.Bounded.{after_in}
use Rattle.meaning.proofs.Encode.{encode, encode_some, Fine, parse_encoded, parse_spelt, parse-nil}
use Rattle.meaning.proofs.Records.{Fits, fits_left, fits-right, fits_in, after-append, records-append}
use Rattle.meaning.proofs.Decode.{decode, decode_complete}
use Rattle.meaning.proofs.Answered.{Answered, answered, records_good}
use Rattle.meaning.proofs.Accepted.{Accepted, some_of, ops_parsed, accepted_call, carried_accepted}
use Rattle.meaning.proofs.Refused.{message-room}

-- ---- the statement

-- the command that holds just these octets of operations
unfoldable pub command_of : List ℕ → List ℕ
command_of p = 1 ∷ be16 (length p) ++ p

-- a part of a cut: octets, not none, that are whole operations
pub record Part (p : ℕ) (q : List ℕ) : Type 0 where
  pub nonzero : 1 ≤ length q
  pub whole : is_some (parse p q) ≡ true

abbrev pub joined_parts : List (List ℕ) → List ℕ
joined_parts ps = flat (λ p. p) ps

-- a part and the room that it is sent with
pub record Sent : Type 0 where
  pub octets : List ℕ
  pub room : List ℕ

abbrev pub sent_with : List ℕ → List ℕ → Sent
sent_with p room = record { octets = p; room = room }

abbrev pub parts_of : List Sent → List (List ℕ)
parts_of xs = map (λ (x : Sent). x.octets) xs

-- the calls that send the parts in order, each into the memory that the one before it left
unfoldable pub sends_with : (p : ℕ) → List ℕ → List Sent → List Outcome
sends_with p m [] = []
sends_with p m (x ∷ xs) =
    message p m (command_of x.octets) x.room ∷ sends_with p (message p m (command_of x.octets) x.room).memory xs

-- the parts with one room: each with the room that the call before it left
unfoldable pub in_one_room : (p : ℕ) → List ℕ → List ℕ → List (List ℕ) → List Sent
in_one_room p m room [] = []
in_one_room p m room (q ∷ ps) = sent_with q room ∷ in_one_room p (message p m (command_of q) room).memory (message p m (command_of q) room).room ps

-- the memory after some calls
unfoldable pub last_memory : List ℕ → List Outcome → List ℕ
last_memory m [] = m
last_memory m (o ∷ os) = last_memory o.memory os

-- the records that the calls' replies spell, joined kind by kind in order
unfoldable pub joined_replies : List Outcome → Records
joined_replies [] = no_records
joined_replies (o ∷ os) = joined (decode o.written) (joined_replies os)

-- a command that was carried out; its reply spells its records and nothing else
pub record CarriedOut (p : ℕ) (o : Outcome) : Type 0 where
  pub number : o.number ≡ 0
  pub reply : o.written ≡ complete p (decode o.written)

pub record Cut (p : ℕ) (m : List ℕ) (calls : List Outcome) (memory : List ℕ) (rs : Records) : Type 0 where
  pub each_carried_out : Each (CarriedOut p) calls
  pub same_memory : last_memory m calls ≡ memory
  pub same_records : joined_replies calls ≡ rs

-- ---- octets of operations

-- whole operations joined are the operations of both
parse-joined : (p : ℕ) (h q : List ℕ) (a b : List Op) → Octets h → Octets q → parse p h ≡ some a → parse p q ≡ some b
    → (parse p (h ++ q) ≡ some (a ++ b)) × Each (Fine p) a
parse-joined p h q a b op oq e f =
    let x = parse_spelt p h a op e in
    let y = parse_spelt p q b oq f in
    let z : h ++ q ≡ flat encode (a ++ b) = ap₂ ◌++◌ x.0 y.0 ∙ sym (flat_append encode a b) in
    (ap (parse p) z ∙ parse_encoded p (a ++ b) (each_append (Fine p) a b x.1 y.1), x.1)

unfoldable ops_in : (p : ℕ) → List ℕ → List Op
ops_in p q = or_none (parse p q)

part_parsed : (p : ℕ) (q : List ℕ) → Part p q → parse p q ≡ some (ops_in p q)
unfolding ops_in
part_parsed p q h = some_of (parse p q) h.whole

unfoldable ops_in_all : (p : ℕ) → List (List ℕ) → List Op
ops_in_all p [] = []
ops_in_all p (q ∷ ps) = ops_in p q ++ ops_in_all p ps

parts_parsed : (p : ℕ) (ps : List (List ℕ)) → Each (Part p) ps → Octets (joined_parts ps) → parse p (joined_parts ps) ≡ some (ops_in_all p ps)
unfolding ops_in_all flat
parts_parsed p [] h o = parse-nil p
parts_parsed p (t ∷ ps) h o =
    let q = joined_parts ps in
    let oq = each_right (λ x. x < 256) t q o in
    (parse-joined p t q (ops_in p t) (ops_in_all p ps) (each_left (λ x. x < 256) t q o) oq (part_parsed p t h.0) (parts_parsed p ps h.1 oq)).0

-- ---- a part is carried out

field_command_of : (p : List ℕ) → length p < 65536 → length_field (command_of p) ≡ length p
unfolding length_field command_of at16 be16
field_command_of p h = omega arith

operations_command_of : (p : List ℕ) → length p < 65536 → operations (command_of p) ≡ p
unfolding operations
operations_command_of p h = rw (field_command_of p h) (unfold part command_of be16 in take-length p)

part_accepted : (p : ℕ) (m : List ℕ) (n : ℕ) (q : List ℕ) → sound_in p m ≡ true → Part p q → 3 + length q ≤ 2048 → Fits p n (records p m (ops_in p q))
    → Accepted p m (command_of q) n (ops_in p q)
unfolding is_command command_of be16
part_accepted p m n q s h long fit =
    let v : length_field (command_of q) ≡ length q = field_command_of q (omega arith) in
    let i : parse p (operations (command_of q)) ≡ some (ops_in p q) = ap (parse p) (operations_command_of q (omega arith)) ∙ part_parsed p q h in
    record {
      is_sound = s;
      command = refl;
      long = omega arith;
      nonzero = rw v h.nonzero;
      inside = rw v (omega arith);
      parsed = i;
      fit = fit;
    }

-- what an accepted command's call leaves
carried : (p : ℕ) (m s room : List ℕ) (os : List Op) → Accepted p m s (length room) os → Each (Fine p) os
    → CarriedOut p (message p m s room) × (decode (message p m s room).written ≡ records p m os)
carried p m s room os a f =
    let r : Records = records p m os in
    let d : message p m s room ≡ done (complete p r) (after p m os) room = accepted_call p m s room os a in
    let e : (message p m s room).written ≡ complete p r = ap (λ (o : Outcome). o.written) d in
    let b : decode (complete p r) ≡ r = decode_complete p r (records_good p m os f) a.fit.in_limit in
    (record { number = ap (λ (o : Outcome). o.number) d; reply = rw (e, b) }, ap decode e ∙ b)

-- ---- one part more

cut_cons : (p : ℕ) (x : Sent) (xs : List Sent) (m mem : List ℕ) (r s : Records) → CarriedOut p (message p m (command_of x.octets) x.room)
    → decode (message p m (command_of x.octets) x.room).written ≡ r
    → Cut p (message p m (command_of x.octets) x.room).memory (sends_with p (message p m (command_of x.octets) x.room).memory xs) mem s
    → Cut p m (sends_with p m (x ∷ xs)) mem (joined r s)
unfolding sends_with last_memory joined_replies
cut_cons p x xs m mem r s n q c =
    record { each_carried_out = (n, c.each_carried_out); same_memory = c.same_memory; same_records = ap₂ joined q c.same_records }

-- each room has n octets at least
abbrev pub Roomy : ℕ → List Sent → Type 0
Roomy n xs = Each (λ x. n ≤ length x.room) xs

abbrev Law : (p : ℕ) → List Sent → Type 0
Law p xs =
    (m : List ℕ) (n : ℕ)
    → sound_in p m ≡ true
    → Each (Part p) (parts_of xs)
    → Octets (joined_parts (parts_of xs))
    → 3 + length (joined_parts (parts_of xs)) ≤ 2048
    → Roomy n xs
    → Fits p n (records p m (ops_in_all p (parts_of xs)))
    → Cut p m (sends_with p m xs) (after p m (ops_in_all p (parts_of xs))) (records p m (ops_in_all p (parts_of xs)))

cut_more : (p : ℕ) (x : Sent) (xs : List Sent) → Law p xs → Law p (x ∷ xs)
unfolding ops_in_all flat
cut_more p x xs law m n s hs o long roomy fit =
    let h = x.octets in
    let ps = parts_of xs in
    let a = ops_in p h in
    let b = ops_in_all p ps in
    let q = joined_parts ps in
    let op = each_left (λ x. x < 256) h q o in
    let fine : Each (Fine p) a = (parse_spelt p h a op (part_parsed p h hs.0)).1 in
    let m1 : List ℕ = after p m a in
    let r1 : Records = records p m a in
    let r2 : Records = records p m1 b in
    let e : records p m (a ++ b) ≡ joined r1 r2 = records-append p m a b in
    let fit2 : Fits p n (joined r1 r2) = rw e at fit in
    let left : Fits p n r1 = fits_left p n r1 r2 fit2 in
    let fit1 : Fits p (length x.room) r1 = fits_in p n (length x.room) r1 (omega (arith, left.in_room, roomy.0)) left in
    let l : length (h ++ q) ≡ length h + length q = length-append h q in
    let c : Accepted p m (command_of h) (length x.room) a = part_accepted p m (length x.room) h s hs.0 (omega arith) fit1 in
    let d : message p m (command_of h) x.room ≡ done (complete p r1) m1 x.room = accepted_call p m (command_of h) x.room a c in
    let z = carried p m (command_of h) x.room a c fine in
    let ih : Cut p m1 (sends_with p m1 xs) (after p m1 b) r2 =
    law m1 n (after_in p m a s) hs.1 (each_right (λ x. x < 256) h q o) (omega arith) roomy.1 (fits-right p n r1 r2 fit2) in
    rw (e, after-append p m a b) (cut_cons p x xs m (after p m1 b) r1 r2 z.0 z.1 (rw d ih))

cut_parts : (p : ℕ) (xs : List Sent) → Law p xs
unfolding sends_with last_memory joined_replies ops_in_all after records answers gathered
cut_parts p [] = λ m n s hs o long roomy fit. record { each_carried_out = tt; same_memory = refl; same_records = refl }
cut_parts p (x ∷ xs) = cut_more p x xs (cut_parts p xs)

-- ---- one room: it keeps its length

one_parts : (p : ℕ) (m room : List ℕ) (ps : List (List ℕ)) → parts_of (in_one_room p m room ps) ≡ ps
unfolding in_one_room
one_parts p m room [] = refl
one_parts p m room (q ∷ ps) = ap (λ (l : List (List ℕ)). q ∷ l) (one_parts p (message p m (command_of q) room).memory (message p m (command_of q) room).room ps)

one_roomy : (p n : ℕ) (m room : List ℕ) (ps : List (List ℕ)) → n ≤ length room → Roomy n (in_one_room p m room ps)
unfolding in_one_room
one_roomy p n m room [] h = tt
one_roomy p n m room (q ∷ ps) h = (h, one_roomy p n (message p m (command_of q) room).memory (message p m (command_of q) room).room ps (rw (message-room p m (command_of q) room).long h))

-- ---- the law

operations-length : (s : List ℕ) → length (operations s) ≤ length_field s
unfolding operations part
operations-length s = rw length-take (omega arith)

module _ (p : ℕ) (m s room : List ℕ) (o : Octets s) (c : is_command s ≡ true) (n : (message p m s room).number ≡ 0) where
  accepted : Accepted p m s (length room) (ops_of p s)
  accepted = carried_accepted p m s room c n

  pub whole_fine : Each (Fine p) (ops_of p s)
  unfolding operations
  whole_fine = (parse_spelt p (operations s) (ops_of p s) (octets-part s 3 (length_field s) o) accepted.parsed).1

  -- what a command that is carried out leaves: its reply spells its records, which answer its operations
  pub carried_out_lem : CarriedOut p (message p m s room)
  carried_out_lem = (carried p m s room (ops_of p s) accepted whole_fine).0

  pub replied : decode (message p m s room).written ≡ records p m (ops_of p s)
  replied = (carried p m s room (ops_of p s) accepted whole_fine).1

  pub replied_answers : Answered p m (ops_of p s) (decode (message p m s room).written)
  replied_answers = rw replied (answered p m (ops_of p s))

  -- a room for each part, none shorter than the whole reply
  pub cut_rooms : (xs : List Sent) → Each (Part p) (parts_of xs) → joined_parts (parts_of xs) ≡ operations s → Roomy (length (message p m s room).written) xs
      → Cut p m (sends_with p m xs) (message p m s room).memory (decode (message p m s room).written)
  unfolding operations
  cut_rooms xs hs e roomy =
      let parts = parts_of xs in
      let oc : Octets (joined_parts parts) = rw e (octets-part s 3 (length_field s) o) in
      let q : ops_of p s ≡ ops_in_all p parts = ops_parsed p s (ops_in_all p parts) (ap (parse p) (sym e) ∙ parts_parsed p parts hs oc) in
      let l : length (joined_parts parts) ≤ length_field s = rw e (operations-length s) in
      let d : message p m s room ≡ done (complete p (records p m (ops_of p s))) (after p m (ops_of p s)) room = accepted_call p m s room (ops_of p s) accepted in
      let w : (message p m s room).written ≡ complete p (records p m (ops_in_all p parts)) = ap (λ (o : Outcome). o.written) d ∙ ap (λ (os : List Op). complete p (records p m os)) q in
      let whole : Fits p (length room) (records p m (ops_in_all p parts)) = subst (λ (os : List Op). Fits p (length room) (records p m os)) q accepted.fit in
      let fit = fits_in p (length room) (length (complete p (records p m (ops_in_all p parts)))) (records p m (ops_in_all p parts)) (omega arith) whole in
      let k = cut_parts p xs m (length (complete p (records p m (ops_in_all p parts)))) accepted.is_sound hs oc (omega (arith, accepted.inside, accepted.long)) (rw w at roomy) fit in
      rw (replied, d, q) k

  -- one room
  pub cut : (parts : List (List ℕ)) → Each (Part p) parts → joined_parts parts ≡ operations s
      → Cut p m (sends_with p m (in_one_room p m room parts)) (message p m s room).memory (decode (message p m s room).written)
  cut parts hs e =
      let i = one_parts p m room parts in
      cut_rooms (in_one_room p m room parts) (rw i hs) (rw i e) (one_roomy p (length (message p m s room).written) m room parts (message-room p m s room).in_room)

-- ---- the same over operations: any cut of the list of operations is a cut of its octets

unfoldable pub spelt : List (List Op) → List (List ℕ)
spelt [] = []
spelt (os ∷ oss) = flat encode os ∷ spelt oss

unfoldable pub all_ops : List (List Op) → List Op
all_ops [] = []
all_ops (os ∷ oss) = os ++ all_ops oss

abbrev pub NonEmpty : List Op → Type 0
NonEmpty os = 1 ≤ length os

spelt_some : (os : List Op) → NonEmpty os → 1 ≤ length (flat encode os)
unfolding flat
spelt_some [] h = absurd (omega arith)
spelt_some (o ∷ os) h = omega (arith, encode_some o, length-append (encode o) (flat encode os))

spelt_joined : (oss : List (List Op)) → joined_parts (spelt oss) ≡ flat encode (all_ops oss)
unfolding spelt all_ops flat
spelt_joined [] = refl
spelt_joined (os ∷ oss) = ap (λ (l : List ℕ). flat encode os ++ l) (spelt_joined oss) ∙ sym (flat_append encode os (all_ops oss))

spelt_parts : (p : ℕ) (oss : List (List Op)) → Each NonEmpty oss → Each (Fine p) (all_ops oss) → Each (Part p) (spelt oss)
unfolding spelt all_ops
spelt_parts p [] n f = tt
spelt_parts p (os ∷ oss) n f = (
  record { nonzero = spelt_some os n.0; whole = ap is_some (parse_encoded p os (each_left (Fine p) os (all_ops oss) f)) },
  spelt_parts p oss n.1 (each_right (Fine p) os (all_ops oss) f),
)

-- such operations, sent in one command, are carried out where their reply fits
pub sent_operations : (p : ℕ) (m room : List ℕ) (os : List Op) → sound_in p m ≡ true → NonEmpty os → Each (Fine p) os → 3 + length (flat encode os) ≤ 2048
    → Fits p (length room) (records p m os) → message p m (command_of (flat encode os)) room ≡ done (complete p (records p m os)) (after p m os) room
unfolding ops_in
sent_operations p m room os s n f long fit =
    let h = flat encode os in
    let e : parse p h ≡ some os = parse_encoded p os f in
    let part : Part p h = record { nonzero = spelt_some os n; whole = ap is_some e } in
    let q : or_none (parse p h) ≡ os = ap or_none e in
    accepted_call p m (command_of h) room os (rw q at (part_accepted p m (length room) h s part long (rw q fit)))

pub cut_operations : (p : ℕ) (m s room : List ℕ) → Octets s → is_command s ≡ true → (message p m s room).number ≡ 0
    → (oss : List (List Op)) → Each NonEmpty oss → all_ops oss ≡ ops_of p s
    → Cut p m (sends_with p m (in_one_room p m room (spelt oss))) (message p m s room).memory (decode (message p m s room).written)
unfolding operations
cut_operations p m s room o c n oss h e =
    let a = accepted p m s room o c n in
    let w = parse_spelt p (operations s) (ops_of p s) (octets-part s 3 (length_field s) o) a.parsed in
    let f : Each (Fine p) (all_ops oss) = rw e w.1 in
    cut p m s room o c n (spelt oss) (spelt_parts p oss h f) (spelt_joined oss ∙ ap (flat encode) e ∙ sym w.0)
