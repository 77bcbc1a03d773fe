-- The cut law reaches the code: it holds of whatever callers get from `message`, by its contract alone. A caller sees an outcome, the
-- memory and the room that the call left; nothing is assumed of them but that the contract allows them.
use Prim.Native.Nat.{ℕ}
use native.Mathlib.Omega.{arith}
use mathlib.Core.Path.{◌≡◌, refl, sym, subst, ap, ap₂, ◌∙◌}
use mathlib.Core.Bool.{true}
use mathlib.Core.List.{List, [], ◌∷◌}
use lib.ListN.{take}
use Rattle.meaning.specs.Reply.{Records, no_records, joined, complete}
use Rattle.meaning.specs.Calls.{Outcome, is_command, operations}
use Rattle.meaning.specs.Calls as calls
use Rattle.meaning.specs.Profile.{is_profile}
use Rattle.meaning.specs.FormB.{ahead, profile_of, behind, formed, message}
use Rattle.meaning.proofs.Lists.{Each, Octets}
use Rattle.meaning.proofs.Decode.{decode}
use Rattle.meaning.proofs.Sendings.{take_message}
use Rattle.meaning.proofs.Formed.{form_is, form_profile, message-behind, gives_lent, asks_form, not_1_in}
use Rattle.meaning.proofs.Cut.{command_of, Part, joined_parts, Sent, parts_of, sends_with, in_one_room, last_memory, joined_replies, CarriedOut, Cut, Roomy, cut_rooms, cut}
use Rattle.endpoint.specs.Outcomes.{Gives, number_of, length_of}
use Rattle.endpoint.proofs.OneOutcome.{Seen, Allows, message-written}

-- the reply that a caller finds in the room
abbrev pub reply_in : Seen → List ℕ
reply_in x = take (length_of x.outcome) x.room

-- the parts sent in order, each as a command into the memory that the call before left, and each with its own room
abbrev pub Called : List ℕ → List Sent → List Seen → Type 0
Called b [] [] = Unit {0}
Called b [] (x ∷ xs) = ⊥
Called b (p ∷ ps) [] = ⊥
Called b (p ∷ ps) (x ∷ xs) = Allows (message b (command_of p.octets) p.room) x × Called x.memory ps xs

-- the parts sent in order with one room: each into the memory and the room that the call before left
abbrev pub CalledInOne : List ℕ → List ℕ → List (List ℕ) → List Seen → Type 0
CalledInOne b room [] [] = Unit {0}
CalledInOne b room [] (x ∷ xs) = ⊥
CalledInOne b room (p ∷ ps) [] = ⊥
CalledInOne b room (p ∷ ps) (x ∷ xs) = Allows (message b (command_of p) room) x × CalledInOne x.memory x.room ps xs

-- the memory after the last of them, and the records of their replies joined kind by kind
unfoldable pub last_seen : List ℕ → List Seen → List ℕ
last_seen m [] = m
last_seen m (x ∷ xs) = last_seen x.memory xs

unfoldable pub records_seen : List Seen → Records
records_seen [] = no_records
records_seen (x ∷ xs) = joined (decode (reply_in x)) (records_seen xs)

-- a part that was carried out: its reply spells its records and nothing else
pub record Replied (p : ℕ) (x : Seen) : Type 0 where
  pub number : number_of x.outcome ≡ 0
  pub reply : reply_in x ≡ complete p (decode (reply_in x))

-- what a contract allows on memory with its profile ahead is what is given on the memory
bare : (p : ℕ) (known : is_profile p ≡ true) (m s room : List ℕ) (x : Seen) → Allows (message (ahead p m) s room) x → Allows (formed p (calls.message p m s room)) x
bare p known m s room x g = rw (message-behind p known m s room) at g

written_bare : (p : ℕ) (known : is_profile p ≡ true) (m s room : List ℕ) (x : Seen) → Allows (message (ahead p m) s room) x → reply_in x ≡ (calls.message p m s room).written
written_bare p known m s room x g = (message-written (ahead p m) s room g).1 ∙ ap (λ (o : Outcome). o.written) (message-behind p known m s room)

-- what callers see of the parts is what the definition gives for them on the memory behind the first octet
record Follows (p : ℕ) (m : List ℕ) (ps : List Sent) (xs : List Seen) : Type 0 where
  memories : last_seen (ahead p m) xs ≡ ahead p (last_memory m (sends_with p m ps))
  replies : records_seen xs ≡ joined_replies (sends_with p m ps)
  carried : Each (CarriedOut p) (sends_with p m ps) → Each (Replied p) xs

follow : (p : ℕ) (known : is_profile p ≡ true) (ps : List Sent) (xs : List Seen) (m : List ℕ) → Called (ahead p m) ps xs → Follows p m ps xs
unfolding sends_with last_memory joined_replies last_seen records_seen
follow p known [] [] m c = record { memories = refl; replies = refl; carried = λ e. tt }
follow p known [] (x ∷ xs) m c = absurd c
follow p known (q ∷ ps) [] m c = absurd c
follow p known (q ∷ ps) (x ∷ xs) m c =
    let s = command_of q.octets in
    let o = calls.message p m s q.room in
    let g : Gives (formed p o) x.outcome x.memory x.room = bare p known m s q.room x c.0 in
    let w : reply_in x ≡ o.written = written_bare p known m s q.room x c.0 in
    let d : Called (ahead p o.memory) ps xs = rw g.memory_is at c.1 in
    let r = follow p known ps xs o.memory d in
    let e : last_seen x.memory xs ≡ last_seen (ahead p o.memory) xs = ap (λ (n : List ℕ). last_seen n xs) g.memory_is in
    record {
      memories = e ∙ r.memories;
      replies = ap₂ joined (ap decode w) r.replies;
      carried = λ d. (record { number = g.number ∙ d.0.number; reply = rw w d.0.reply }, r.carried d.1);
    }

in_one : (p : ℕ) (known : is_profile p ≡ true) (m room : List ℕ) (ps : List (List ℕ)) (xs : List Seen) → CalledInOne (ahead p m) room ps xs → Called (ahead p m) (in_one_room p m room ps) xs
unfolding in_one_room
in_one p known m room [] [] c = tt
in_one p known m room [] (x ∷ xs) c = absurd c
in_one p known m room (q ∷ ps) [] c = absurd c
in_one p known m room (q ∷ ps) (x ∷ xs) c =
    let o = calls.message p m (command_of q) room in
    let g : Gives (formed p o) x.outcome x.memory x.room = bare p known m (command_of q) room x c.0 in
    let d : CalledInOne (ahead p o.memory) o.room ps xs = rw (g.memory_is, g.room_is) at c.1 in
    let f : Called x.memory (in_one_room p o.memory o.room ps) xs = rw g.memory_is (in_one p known o.memory o.room ps xs d) in
    (c.0, f)

-- demand 3, of calls: each part is carried out and its reply spells its records, the memory at the end is that of the one call to the octet, and the
-- records of the replies joined are those of its reply
pub record CutSeen (p : ℕ) (x : Seen) (b : List ℕ) (xs : List Seen) : Type 0 where
  pub each_carried_out : Each (Replied p) xs
  pub same_memory : last_seen b xs ≡ x.memory
  pub same_records : records_seen xs ≡ decode (reply_in x)

-- on memory with its profile ahead
module _ (p : ℕ) (known : is_profile p ≡ true) (m s room : List ℕ) (x : Seen) (o : Octets s) (c : is_command s ≡ true) (g : Allows (message (ahead p m) s room) x) (n : number_of x.outcome ≡ 0) where
  done : (calls.message p m s room).number ≡ 0
  done = sym (bare p known m s room x g).number ∙ n

  seen : (ps : List Sent) (xs : List Seen) → Called (ahead p m) ps xs
      → Cut p m (sends_with p m ps) (calls.message p m s room).memory (decode (calls.message p m s room).written) → CutSeen p x (ahead p m) xs
  seen ps xs d k =
      let f = follow p known ps xs m d in
      record {
        each_carried_out = f.carried k.each_carried_out;
        same_memory = f.memories ∙ ap (ahead p) k.same_memory ∙ sym (bare p known m s room x g).memory_is;
        same_records = f.replies ∙ k.same_records ∙ ap decode (sym (written_bare p known m s room x g));
      }

  rooms-behind : (ps : List Sent) → Each (Part p) (parts_of ps) → joined_parts (parts_of ps) ≡ operations s → Roomy (length_of x.outcome) ps
      → (xs : List Seen) → Called (ahead p m) ps xs → CutSeen p x (ahead p m) xs
  rooms-behind ps hs e roomy xs d = seen ps xs d (cut_rooms p m s room o c done ps hs e (rw (sym (bare p known m s room x g).written) roomy))

  one_behind : (parts : List (List ℕ)) → Each (Part p) parts → joined_parts parts ≡ operations s → (xs : List Seen) → CalledInOne (ahead p m) room parts xs → CutSeen p x (ahead p m) xs
  one_behind parts hs e xs d = seen (in_one_room p m room parts) xs (in_one p known m room parts xs d) (cut p m s room o c done parts hs e)

-- and so on whatever is lent, since nothing is carried out on what is not in form B
module _ (b s room : List ℕ) (x : Seen) (o : Octets s) (c : is_command s ≡ true) (g : Allows (message b s room) x) (n : number_of x.outcome ≡ 0) where
  known : is_profile (profile_of b) ≡ true
  unfolding gives_lent asks_form
  known = form_profile b (not_1_in b (take_message s room) refl (λ e. absurd (omega (arith, n, g.number, e))))

  in_form : b ≡ ahead (profile_of b) (behind b)
  unfolding gives_lent asks_form
  in_form = form_is b (not_1_in b (take_message s room) refl (λ e. absurd (omega (arith, n, g.number, e))))

  -- a room for each part, none shorter than the whole reply
  pub cut_reached_rooms : (ps : List Sent) → Each (Part (profile_of b)) (parts_of ps) → joined_parts (parts_of ps) ≡ operations s → Roomy (length_of x.outcome) ps
      → (xs : List Seen) → Called b ps xs → CutSeen (profile_of b) x b xs
  cut_reached_rooms ps hs e roomy xs d =
      let k = rooms-behind (profile_of b) known (behind b) s room x o c (subst (λ (l : List ℕ). Allows (message l s room) x) in_form g) n ps hs e roomy xs (subst (λ (l : List ℕ). Called l ps xs) in_form d) in
      subst (λ (l : List ℕ). CutSeen (profile_of b) x l xs) (sym in_form) k

  -- one room
  pub cut_reached : (parts : List (List ℕ)) → Each (Part (profile_of b)) parts → joined_parts parts ≡ operations s → (xs : List Seen) → CalledInOne b room parts xs
      → CutSeen (profile_of b) x b xs
  cut_reached parts hs e xs d =
      let k = one_behind (profile_of b) known (behind b) s room x o c (subst (λ (l : List ℕ). Allows (message l s room) x) in_form g) n parts hs e xs (subst (λ (l : List ℕ). CalledInOne l room parts xs) in_form d) in
      subst (λ (l : List ℕ). CutSeen (profile_of b) x l xs) (sym in_form) k
