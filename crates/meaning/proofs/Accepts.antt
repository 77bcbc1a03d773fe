-- What the reader accepts, and nothing else: a message is accepted exactly if its octets are spelt as `Spelt` says, and then the records are those
-- that it spells. Nothing of the reader is used to say it but how a cause reads.
use Prim.Native.Nat.{ℕ, zero, suc, ◌≤◌, ◌<◌}
use native.Mathlib.Omega.{arith}
use mathlib.Core.Path.{◌≡◌, refl, sym, ap, subst, ◌∙◌}
use mathlib.Core.Bool.{Bool, true, false, ◌&&◌, ◌||◌, cond, false≢true}
use mathlib.Core.Option.{Option, none, some}
use mathlib.Core.List.{List, [], ◌∷◌, ◌++◌, append_assoc, append-nil}
use lib.ListN.{length}
use lib.Dec.{eqb, leb, ltb}
use borrow.Author.Tests.{le-leb, leb-true, eqb-true}
use Rattle.meaning.specs.Octets.{be16, flat}
use Rattle.meaning.specs.Checks.{first_failed, when_passed}
use Rattle.meaning.specs.Reply.{Held, Failed}
use Rattle.meaning.specs.Capture.{Capture, capturing, merged, then_read, sized, names_in, status_in, result_in, length_octets, Elements, keeping, elements_in, elements_of, of_element, of_elements, in_reply, in_notification, is_reply, is_notification, is_there, contained, capture_checks, or_nothing, capture}
use Rattle.meaning.proofs.Lists.{Each, Octets, each_left, each_right}
use Rattle.meaning.proofs.Tests.{first-passed}
use Rattle.meaning.proofs.Backwards.{then_came, some_same, alone_came, one_came, two_came}
use Rattle.meaning.proofs.Walked.{Element, length_spelt, spelling, Tells, RightSize}
use Rattle.meaning.proofs.Skipped.{kept_of, kept_all, unread, first_unless_higher, elements_read, names-first, status-first, result-first, contents_alone}
use Rattle.meaning.proofs.SpeltContents.{NamesSpelt, StatusSpelt, ResultSpelt, names-read, status-read, result-read, names_came, status_came, result_came}

-- ---- elements that are walked are spelt

element_came : (id : ℕ) (s c t : List ℕ) → Octets s → sized (length_octets id) s ≡ some (c, t) → (s ≡ length_spelt (length_octets id) (length c) ++ c ++ t) × Tells (length_octets id) c
unfolding length_octets length_spelt
element_came id s c t o = go (leb 0x80 id) (leb 0x70 id)
  where
    go : (a b : Bool) → sized (cond a 0 (cond b 2 1)) s ≡ some (c, t) → (s ≡ length_spelt (cond a 0 (cond b 2 1)) (length c) ++ c ++ t) × Tells (cond a 0 (cond b 2 1)) c
    go true b e = let p = alone_came s c t o e in (p.0 ∙ ap (λ (l : List ℕ). l ++ t) (sym p.1), p.1)
    go false true e = let p = two_came s c t o e in (p.0 ∙ sym (append_assoc (be16 (length c)) c t), p.1)
    go false false e = one_came s c t o e

-- a walk over the octets s, from what was kept before to what is kept in the end
record Walk (k : Elements (Option (List ℕ))) (s : List ℕ) (k' : Elements (Option (List ℕ))) : Type 0 where
  es : List Element
  octets : s ≡ flat spelling es
  sizes : Each RightSize es
  contents : Each (λ e. Octets e.contents) es
  kept : kept_all k es ≡ k'

walk_end : (k k' : Elements (Option (List ℕ))) → k ≡ k' → Walk k [] k'
unfolding flat kept_all
walk_end k k' e = record { es = []; octets = refl; sizes = tt; contents = tt; kept = e }

walk_more : (k k' : Elements (Option (List ℕ))) (id : ℕ) (s c t : List ℕ) → Octets s → sized (length_octets id) s ≡ some (c, t) → (Octets t → Walk (keeping k id (some c)) t k') → Walk k (id ∷ s) k'
unfolding flat kept_all spelling
walk_more k k' id s c t o e ih =
    let w = length_octets id in
    let p = element_came id s c t o e in
    let both : Octets (length_spelt w (length c) ++ c ++ t) = rw p.0 at o in
    let h = ih (each_right (λ x. x < 256) (length_spelt w (length c) ++ c) t both) in
    record {
      es = record { id = id; contents = c } ∷ h.es;
      octets = ap (λ (l : List ℕ). id ∷ l) (p.0 ∙ ap (λ (l : List ℕ). length_spelt w (length c) ++ c ++ l) h.octets);
      sizes = (p.1, h.sizes);
      contents = (each_right (λ x. x < 256) (length_spelt w (length c)) c (each_left (λ x. x < 256) (length_spelt w (length c) ++ c) t both), h.contents);
      kept = h.kept;
    }

elements_came : (n : ℕ) (k : Elements (Option (List ℕ))) (s : List ℕ) (k' : Elements (Option (List ℕ))) → Octets s → elements_in kept_of n k s ≡ some k' → Walk k s k'
unfolding elements_in
elements_came zero k [] k' o e = walk_end k k' (some_same e)
elements_came zero k (id ∷ s) k' o e = absurd (let z : ◌≡◌ {A = ℕ} 0 1 = cc in omega arith)
elements_came (suc n) k [] k' o e = walk_end k k' (some_same e)
elements_came (suc n) k (id ∷ s) k' o e =
    let p = then_came (sized (length_octets id) s) _ k' e in
    walk_more k k' id s p.0.0 p.0.1 o.1 p.1 (λ ot. elements_came n (keeping k id (some p.0.0)) p.0.1 k' ot p.2)

-- ---- a message as it is spelt

-- what is said of the contents of an element that is read, and of one that is not
abbrev pub OfElement : Option (List ℕ) → (List ℕ → Type 0) → Type 0 → Type 0
OfElement none Contents Absent = Absent
OfElement (some c) Contents Absent = Contents c

-- behind the type of a reply: elements, of which the first of each is read unless a higher known one stands before it
pub record ReplySpelt (s : List ℕ) (r : Capture) : Type 0 where
  pub es : List Element
  pub octets : s ≡ flat spelling es
  pub sizes : Each RightSize es
  pub names : OfElement (first_unless_higher 0x70 es) (λ c. NamesSpelt c r.names) (r.names ≡ [])
  pub status : OfElement (first_unless_higher 0x71 es) (λ c. StatusSpelt c r.values r.read_errors) ((r.values ≡ []) × (r.read_errors ≡ []))
  pub result : OfElement (first_unless_higher 0x72 es) (λ c. ResultSpelt c r.updates r.update_errors r.long_updates) ((r.updates ≡ []) × (r.update_errors ≡ []) × (r.long_updates ≡ []))

-- behind the type of a notification: a length, contents, and octets that are not looked at
pub record NotificationSpelt (s : List ℕ) (r : Capture) : Type 0 where
  pub contents : List ℕ
  pub behind : List ℕ
  pub octets : s ≡ be16 (length contents) ++ (contents ++ behind)
  pub size : length contents < 65536
  pub status : StatusSpelt contents r.values r.read_errors
  pub others : r ≡ capturing [] r.values r.read_errors [] [] []

-- ---- what is spelt so is read

names_of : (o : Option (List ℕ)) (ns : List ℕ) → OfElement o (λ c. NamesSpelt c ns) (ns ≡ []) → of_element names_in o ≡ some (capturing ns [] [] [] [] [])
unfolding of_element
names_of none ns h = rw h
names_of (some c) ns h = names-read c ns h

status_of_lem : (o : Option (List ℕ)) (vs : List Held) (es : List Failed) → OfElement o (λ c. StatusSpelt c vs es) ((vs ≡ []) × (es ≡ [])) → of_element status_in o ≡ some (capturing [] vs es [] [] [])
unfolding of_element
status_of_lem none vs es h = rw (h.0, h.1)
status_of_lem (some c) vs es h = status-read c vs es h

result_of_lem : (o : Option (List ℕ)) (us : List Held) (fs : List Failed) (ls : List Held) → OfElement o (λ c. ResultSpelt c us fs ls) ((us ≡ []) × (fs ≡ []) × (ls ≡ []))
    → of_element result_in o ≡ some (capturing [] [] [] us fs ls)
unfolding of_element
result_of_lem none us fs ls h = rw (h.0, h.1, h.2)
result_of_lem (some c) us fs ls h = result-read c us fs ls h

reply-read : (s : List ℕ) (r : Capture) → ReplySpelt s r → in_reply s ≡ some r
unfolding in_reply of_elements then_read
reply-read s r h =
    rw (
      h.octets,
      elements_read h.es h.sizes,
      names-first h.es,
      status-first h.es,
      result-first h.es,
      names_of (first_unless_higher 0x70 h.es) r.names h.names,
      status_of_lem (first_unless_higher 0x71 h.es) r.values r.read_errors h.status,
      result_of_lem (first_unless_higher 0x72 h.es) r.updates r.update_errors r.long_updates h.result,
    )
    (simp append-nil)

notification-read : (s : List ℕ) (r : Capture) → NotificationSpelt s r → in_notification s ≡ some r
notification-read s r h =
    ap in_notification h.octets ∙ contents_alone h.contents h.behind h.size ∙ status-read h.contents r.values r.read_errors h.status
    ∙ ap (λ (c : Capture). some c) (sym h.others)

-- ---- what is read is spelt so

-- the contents that are read are octets
chosen_octets : (id : ℕ) (es : List Element) → Each (λ e. Octets e.contents) es → OfElement (first_unless_higher id es) Octets (Unit {0})
unfolding first_unless_higher
chosen_octets id [] h = tt
chosen_octets id (e ∷ es) h = go (eqb e.id id) (ltb id e.id && leb e.id 0x72) (chosen_octets id es h.1)
  where
    go : (a b : Bool) → OfElement (first_unless_higher id es) Octets (Unit {0}) → OfElement (cond a (some e.contents) (cond b none (first_unless_higher id es))) Octets (Unit {0})
    go true b k = h.0
    go false true k = tt
    go false false k = k

names-from : (o : Option (List ℕ)) (r : Capture) → OfElement o Octets (Unit {0}) → of_element names_in o ≡ some r
    → OfElement o (λ c. NamesSpelt c r.names) (r.names ≡ []) × (r ≡ capturing r.names [] [] [] [] [])
unfolding of_element
names-from none r h e = subst (λ (x : Capture). (x.names ≡ []) × (x ≡ capturing x.names [] [] [] [] [])) (some_same e) (refl, refl)
names-from (some c) r h e = names_came c r h e

status-from : (o : Option (List ℕ)) (r : Capture) → OfElement o Octets (Unit {0}) → of_element status_in o ≡ some r
    → OfElement o (λ c. StatusSpelt c r.values r.read_errors) ((r.values ≡ []) × (r.read_errors ≡ [])) × (r ≡ capturing [] r.values r.read_errors [] [] [])
unfolding of_element
status-from none r h e =
    subst (λ (x : Capture). ((x.values ≡ []) × (x.read_errors ≡ [])) × (x ≡ capturing [] x.values x.read_errors [] [] [])) (some_same e) ((refl, refl), refl)
status-from (some c) r h e = status_came c r h e

result-from : (o : Option (List ℕ)) (r : Capture) → OfElement o Octets (Unit {0}) → of_element result_in o ≡ some r
    → OfElement o (λ c. ResultSpelt c r.updates r.update_errors r.long_updates) ((r.updates ≡ []) × (r.update_errors ≡ []) × (r.long_updates ≡ []))
    × (r ≡ capturing [] [] [] r.updates r.update_errors r.long_updates)
unfolding of_element
result-from none r h e =
    subst (λ (x : Capture). ((x.updates ≡ []) × (x.update_errors ≡ []) × (x.long_updates ≡ [])) × (x ≡ capturing [] [] [] x.updates x.update_errors x.long_updates)) (some_same e)
    ((refl, refl, refl), refl)
result-from (some c) r h e = result_came c r h e

-- three captures, each of one element's kinds, are one
merged_three : (n s t : Capture) → n ≡ capturing n.names [] [] [] [] [] → s ≡ capturing [] s.values s.read_errors [] [] [] → t ≡ capturing [] [] [] t.updates t.update_errors t.long_updates
    → merged n (merged s t) ≡ capturing n.names s.values s.read_errors t.updates t.update_errors t.long_updates
merged_three n s t a b c = rw (a, b, c) (simp append-nil)

reply_came : (s : List ℕ) (r : Capture) → Octets s → in_reply s ≡ some r → ReplySpelt s r
unfolding in_reply of_elements elements_of
reply_came s r o e =
    let p = then_came (elements_in kept_of (length s) unread s) _ r e in
    let w = elements_came (length s) unread s p.0 o p.1 in
    let k = p.0 in
    let n = then_came (of_element names_in k.names) _ r p.2 in
    let v = then_came (of_element status_in k.status) _ r n.2 in
    let u = then_came (of_element result_in k.result) _ r v.2 in
    let a : k.names ≡ first_unless_higher 0x70 w.es = ap (λ (x : Elements (Option (List ℕ))). x.names) (sym w.kept) ∙ names-first w.es in
    let b : k.status ≡ first_unless_higher 0x71 w.es = ap (λ (x : Elements (Option (List ℕ))). x.status) (sym w.kept) ∙ status-first w.es in
    let c : k.result ≡ first_unless_higher 0x72 w.es = ap (λ (x : Elements (Option (List ℕ))). x.result) (sym w.kept) ∙ result-first w.es in
    let f = names-from (first_unless_higher 0x70 w.es) n.0 (chosen_octets 0x70 w.es w.contents) (sym (ap (of_element names_in) a) ∙ n.1) in
    let g = status-from (first_unless_higher 0x71 w.es) v.0 (chosen_octets 0x71 w.es w.contents) (sym (ap (of_element status_in) b) ∙ v.1) in
    let h = result-from (first_unless_higher 0x72 w.es) u.0 (chosen_octets 0x72 w.es w.contents) (sym (ap (of_element result_in) c) ∙ u.1) in
    let m : capturing n.0.names v.0.values v.0.read_errors u.0.updates u.0.update_errors u.0.long_updates ≡ r = sym (merged_three n.0 v.0 u.0 f.1 g.1 h.1) ∙ some_same u.2 in
    subst (ReplySpelt s) m (record { es = w.es; octets = w.octets; sizes = w.sizes; names = f.0; status = g.0; result = h.0 })

notification_came : (s : List ℕ) (r : Capture) → Octets s → in_notification s ≡ some r → NotificationSpelt s r
unfolding in_notification
notification_came s r o e =
    let p = then_came (sized 2 s) _ r e in
    let c = p.0.0 in
    let t = p.0.1 in
    let d = two_came s c t o p.1 in
    let oc : Octets c = each_left (λ x. x < 256) c t (each_right (λ x. x < 256) (be16 (length c)) (c ++ t) (rw d.0 at o)) in
    let q = status_came c r oc p.2 in
    record { contents = c; behind = t; octets = d.0; size = d.1; status = q.0; others = q.1 }

-- ---- a whole message

-- a message that spells these records: a reply or a notification
pub data Spelt : List ℕ → Capture → Type 0 where
  reply : {s : List ℕ} {r : Capture} → ReplySpelt s r → Spelt (2 ∷ s) r
  notification : {s : List ℕ} {r : Capture} → NotificationSpelt s r → Spelt (3 ∷ s) r

pub spelt_accepted : (s : List ℕ) (r : Capture) → length s ≤ 4096 → Spelt s r → capture s ≡ record { number = 0; records = r }
unfolding capture capture_checks contained is_reply is_notification first_failed when_passed or_nothing
spelt_accepted _ r h (reply {s} k) = rw (le-leb 1 (suc (length s)) (omega arith), le-leb (suc (length s)) 4096 h, reply-read s r k)
spelt_accepted _ r h (notification {s} k) = rw (le-leb 1 (suc (length s)) (omega arith), le-leb (suc (length s)) 4096 h, notification-read s r k)

-- what is found in octets of either type is what they spell
pub found_spelt : (s : List ℕ) → Octets s → 1 ≤ length s → (is_reply s || is_notification s) ≡ true → (r : Capture) → contained s ≡ some r → Spelt s r
unfolding contained is_reply is_notification
found_spelt [] o h t r e = absurd (omega (arith, h))
found_spelt (x ∷ s) o h t r e = go (eqb x 2) refl (eqb x 3) refl e t
  where
    go : (a : Bool) → eqb x 2 ≡ a → (b : Bool) → eqb x 3 ≡ b → cond a (in_reply s) (in_notification s) ≡ some r → (a || b) ≡ true → Spelt (x ∷ s) r
    go true f b g i t = rw (eqb-true x 2 f) (reply (reply_came s r o.1 i))
    go false f true g i t = rw (eqb-true x 3 g) (notification (notification_came s r o.1 i))
    go false f false g i t = absurd (false≢true t)

there_some : (o : Option Capture) → is_there o ≡ true → o ≡ some (or_nothing o)
unfolding or_nothing
there_some none e = absurd (false≢true e)
there_some (some c) e = refl

pub accepted_spelt : (s : List ℕ) → Octets s → (capture s).number ≡ 0 → Spelt s (capture s).records × (length s ≤ 4096)
unfolding capture capture_checks when_passed
accepted_spelt s o e =
    let a = first-passed 1 _ _ e in
    let b = first-passed 2 _ _ a.1 in
    let c = first-passed 12 _ _ b.1 in
    let d = first-passed 13 _ _ c.1 in
    let r : (capture s).records ≡ or_nothing (contained s) = rw e in
    (rw r (found_spelt s o (leb-true _ _ a.0) c.0 (or_nothing (contained s)) (there_some (contained s) d.0)), leb-true _ _ b.0)
