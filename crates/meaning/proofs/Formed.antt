-- The calls in form B (RULES 23.2 to 23.4, 24.2): each is the call on the memory behind the first octet, by the profile that this octet is and that stays;
-- so every law of memory, in any profile, is one of what a host lends.
use Prim.Native.Nat.{ℕ, ◌≤◌}
use native.Mathlib.Omega.{arith}
use native.Mathlib.Decide.{ℕ_discrete}
use mathlib.Core.Path.{◌≡◌, refl, sym, ap, ◌∙◌, subst}
use mathlib.Core.Logic.{◌≢◌, ◌⊎◌, inl, inr, ⊎_elim}
use mathlib.Core.Bool.{Bool, true, false, false≢true}
use mathlib.Core.List.{List, [], ◌∷◌}
use lib.ListN.{length, length-drop}
use lib.Dec.{eqb}
use lib.IntN.{ℤ}
use borrow.Author.Tests.{eqb-true, eq-eqb, ne_eqb}
use Rattle.meaning.specs.Octets.{octet}
use Rattle.meaning.specs.Checks.{first_failed, when_passed}
use Rattle.meaning.specs.Table.{memory_length}
use Rattle.meaning.specs.Memory.{fresh}
use Rattle.meaning.specs.Profile.{is_profile, sound_in}
use Rattle.meaning.specs.Calls.{Outcome, number_only, call}
use Rattle.meaning.specs.Calls as calls
use Rattle.meaning.specs.Gates.{refused}
use Rattle.meaning.specs.Gates as driver
use Rattle.meaning.specs.FormB.{form_length, ahead, profile_of, behind, in_form_b, sound_form_b, formed, lent, message, local_value, build, expiry, fresh_checks, make_fresh, gates}
use Rattle.meaning.proofs.Tests.{and_left, and_right, and_both, or_left, or_right, or_cases, not-true}
use Rattle.meaning.proofs.Sound.{opened}
use Rattle.meaning.proofs.Bounded.{message_in, local_value_in, build_in_lem, expiry_in, fresh_in}
use Rattle.meaning.proofs.Refused.{Unchanged, message-refused, local_value-refused, build-refused, expiry-refused, make_fresh-refused, RoomAfter, message-room, local_value-room, build-room, expiry-room, make_fresh-room}
use Rattle.meaning.proofs.Numbers.{message_1, local_value_1, build_1, expiry_1, make_fresh_1}
use Rattle.meaning.proofs.Contents.{fresh_octets, fresh_spelt, make_fresh_gives}
use Rattle.meaning.proofs.Profiles.{in_sound}
use Rattle.meaning.proofs.Positions.{position-most, message_nowhere, local_value_nowhere, build_nowhere, expiry_nowhere, make_fresh_nowhere}
use Rattle.meaning.proofs.Driven.{gates_unsound}
use Rattle.meaning.proofs.Sendings.{Call, refresh, take_message, take_value, build_in, take_expiry, gives, after_calls}

-- ---- the form

-- 2,101 octets, the first of them a profile
pub record FormB (b : List ℕ) : Type 0 where
  pub long : length b ≡ 2101
  pub first : (octet b 0 ≡ 2) ⊎ (octet b 0 ≡ 3)

pub profile_opened : (p : ℕ) → is_profile p ≡ true → (p ≡ 2) ⊎ (p ≡ 3)
unfolding is_profile
profile_opened p e = ⊎_elim (λ a. inl (eqb-true p 2 a)) (λ a. inr (eqb-true p 3 a)) (or_cases _ _ e)

pub profile_closed : (p : ℕ) → (p ≡ 2) ⊎ (p ≡ 3) → is_profile p ≡ true
unfolding is_profile
profile_closed p (inl e) = or_left _ _ (eq-eqb p 2 e)
profile_closed p (inr e) = or_right (eqb p 2) _ (eq-eqb p 3 e)

pub profile_none : (p : ℕ) → is_profile p ≡ false → (p ≢ 2) × (p ≢ 3)
profile_none p e = (λ h. false≢true (sym e ∙ profile_closed p (inl h)), λ h. false≢true (sym e ∙ profile_closed p (inr h)))

pub form_opened : (b : List ℕ) → in_form_b b ≡ true → FormB b
unfolding in_form_b
form_opened b e = record { long = eqb-true _ _ (and_left _ _ e); first = profile_opened _ (and_right (eqb (length b) form_length) _ e) }

pub form_closed : (b : List ℕ) → FormB b → in_form_b b ≡ true
unfolding in_form_b
form_closed b f = and_both (eq-eqb _ _ f.long) (profile_closed _ f.first)

pub form_profile : (b : List ℕ) → in_form_b b ≡ true → is_profile (profile_of b) ≡ true
unfolding in_form_b
form_profile b e = and_right (eqb (length b) form_length) _ e

-- so it is the memory behind its first octet, with its profile ahead
pub form_is : (b : List ℕ) → in_form_b b ≡ true → b ≡ ahead (profile_of b) (behind b)
form_is b e = go b (form_opened b e)
  where
    go : (b : List ℕ) → FormB b → b ≡ ahead (profile_of b) (behind b)
    go [] f = absurd (omega (arith, f.long))
    go (x ∷ b) f = refl

pub ahead-form : (p : ℕ) (m : List ℕ) → is_profile p ≡ true → length m ≡ memory_length → in_form_b (ahead p m) ≡ true
unfolding in_form_b
ahead-form p m k h = and_both (eq-eqb (length (ahead p m)) form_length (omega (arith, h))) k

pub ahead-sound : (p : ℕ) (m : List ℕ) → is_profile p ≡ true → sound_in p m ≡ true → sound_form_b (ahead p m) ≡ true
unfolding sound_form_b
ahead-sound p m k s = and_both (ahead-form p m k (opened m (in_sound p m s)).long) s

pub sound-form : (b : List ℕ) → sound_form_b b ≡ true → in_form_b b ≡ true
unfolding sound_form_b
sound-form b e = and_left _ _ e

pub sound_opened : (b : List ℕ) → sound_form_b b ≡ true → (b ≡ ahead (profile_of b) (behind b)) × (sound_in (profile_of b) (behind b) ≡ true)
unfolding sound_form_b
sound_opened b e = (form_is b (and_left _ _ e), and_right (in_form_b b) _ e)

-- ---- each call on memory with its profile ahead gives what it gives on the memory, by that profile and with it ahead

lent-behind : (p : ℕ) (m room : List ℕ) (made : ℕ → List ℕ → Outcome) → (in_form_b (ahead p m) ≡ false → made p m ≡ number_only 1 m room)
    → lent (ahead p m) room made ≡ formed p (made p m)
unfolding lent call first_failed when_passed
lent-behind p m room made f = go (in_form_b (ahead p m)) refl
  where
    go : (b : Bool) → in_form_b (ahead p m) ≡ b → lent (ahead p m) room made ≡ formed p (made p m)
    go true e = rw e
    go false e = rw (e, f e)

unsound_behind : (p : ℕ) (m : List ℕ) → is_profile p ≡ true → in_form_b (ahead p m) ≡ false → sound_in p m ≡ false
unsound_behind p m k e = not-true (sound_in p m) (λ s. false≢true (sym e ∙ ahead-form p m k (opened m (in_sound p m s)).long))

-- for each profile that there is
module _ (p : ℕ) (known : is_profile p ≡ true) where
  pub message-behind : (m s room : List ℕ) → message (ahead p m) s room ≡ formed p (calls.message p m s room)
  unfolding message
  message-behind m s room = lent-behind p m room (λ q n. calls.message q n s room) (λ e. message_1 p m s room (unsound_behind p m known e))

  pub local_value-behind : (m : List ℕ) (n : ℕ) (v : List ℕ) → local_value (ahead p m) n v ≡ formed p (calls.local_value p m n v)
  unfolding local_value
  local_value-behind m n v = lent-behind p m [] (λ q l. calls.local_value q l n v) (λ e. local_value_1 p m n v (unsound_behind p m known e))

  pub build-behind : (m room : List ℕ) → build (ahead p m) room ≡ formed p (calls.build p m room)
  unfolding build
  build-behind m room = lent-behind p m room (λ q n. calls.build q n room) (λ e. build_1 p m room (unsound_behind p m known e))

  pub expiry-behind : (m : List ℕ) → expiry (ahead p m) ≡ formed p (calls.expiry p m)
  unfolding expiry
  expiry-behind m = lent-behind p m [] (λ q n. calls.expiry q n) (λ e. expiry_1 p m (unsound_behind p m known e))

  -- made fresh in the profile that it has
  pub make_fresh-behind : (m : List ℕ) → make_fresh (ahead p m) p ≡ formed p (calls.make_fresh m)
  unfolding make_fresh fresh_checks call first_failed when_passed
  make_fresh-behind m = go (eqb (length (ahead p m)) form_length) refl
    where
      go : (b : Bool) → eqb (length (ahead p m)) form_length ≡ b → make_fresh (ahead p m) p ≡ formed p (calls.make_fresh m)
      go true e = rw (e, known)
      go false e = rw (e, make_fresh_1 m (λ h. false≢true (sym e ∙ eq-eqb (length (ahead p m)) form_length (omega (arith, h)))))

  pub gates-behind : (m : List ℕ) (z : ℤ) → gates (ahead p m) z ≡ driver.gates p m z
  unfolding gates first_failed when_passed
  gates-behind m z = go (in_form_b (ahead p m)) refl
    where
      go : (b : Bool) → in_form_b (ahead p m) ≡ b → gates (ahead p m) z ≡ driver.gates p m z
      go true e = rw e
      go false e = rw (e, gates_unsound p m z (unsound_behind p m known e))

-- the five calls on what is lent, which is made fresh in the profile that it has, and the memory after some of them
unfoldable pub gives_lent : List ℕ → Call → Outcome
gives_lent b refresh = make_fresh b (profile_of b)
gives_lent b (take_message s room) = message b s room
gives_lent b (take_value n v) = local_value b n v
gives_lent b (build_in room) = build b room
gives_lent b take_expiry = expiry b

unfoldable pub after_lent : List ℕ → List Call → List ℕ
after_lent b [] = b
after_lent b (c ∷ cs) = after_lent (gives_lent b c).memory cs

pub gives_behind : (p : ℕ) (m : List ℕ) (c : Call) → is_profile p ≡ true → gives_lent (ahead p m) c ≡ formed p (gives p m c)
unfolding gives_lent gives
gives_behind p m refresh k = make_fresh-behind p k m
gives_behind p m (take_message s room) k = message-behind p k m s room
gives_behind p m (take_value n v) k = local_value-behind p k m n v
gives_behind p m (build_in room) k = build-behind p k m room
gives_behind p m take_expiry k = expiry-behind p k m

pub after-behind : (p : ℕ) (m : List ℕ) (cs : List Call) → is_profile p ≡ true → after_lent (ahead p m) cs ≡ ahead p (after_calls p m cs)
unfolding after_lent after_calls
after-behind p m [] k = refl
after-behind p m (c ∷ cs) k = ap (λ (o : Outcome). after_lent o.memory cs) (gives_behind p m c k) ∙ after-behind p (gives p m c).memory cs k

-- ---- what is not in form B

-- the room that a call is lent
unfoldable pub room_of : Call → List ℕ
room_of refresh = []
room_of (take_message s room) = room
room_of (take_value n v) = []
room_of (build_in room) = room
room_of take_expiry = []

lent_1 : (b room : List ℕ) (made : ℕ → List ℕ → Outcome) → in_form_b b ≡ false → lent b room made ≡ number_only 1 b room
unfolding lent call first_failed when_passed
lent_1 b room made e = rw e

-- each call but making fresh
unfoldable pub asks_form : Call → Bool
asks_form refresh = false
asks_form (take_message s room) = true
asks_form (take_value n v) = true
asks_form (build_in room) = true
asks_form take_expiry = true

-- refuses it with 1
pub unformed_1 : (b : List ℕ) (c : Call) → asks_form c ≡ true → in_form_b b ≡ false → gives_lent b c ≡ number_only 1 b (room_of c)
unfolding gives_lent room_of asks_form message local_value build expiry
unformed_1 b refresh h e = absurd (false≢true h)
unformed_1 b (take_message s room) h e = lent_1 b room _ e
unformed_1 b (take_value n v) h e = lent_1 b [] _ e
unformed_1 b (build_in room) h e = lent_1 b room _ e
unformed_1 b take_expiry h e = lent_1 b [] _ e

gives_1 : (p : ℕ) (m : List ℕ) (c : Call) → asks_form c ≡ true → sound_in p m ≡ false → gives p m c ≡ number_only 1 m (room_of c)
unfolding gives room_of asks_form
gives_1 p m refresh h e = absurd (false≢true h)
gives_1 p m (take_message s room) h e = message_1 p m s room e
gives_1 p m (take_value n v) h e = local_value_1 p m n v e
gives_1 p m (build_in room) h e = build_1 p m room e
gives_1 p m take_expiry h e = expiry_1 p m e

-- what is in form B is given what the memory behind its profile is given
pub form_gives : (b : List ℕ) (c : Call) → in_form_b b ≡ true → gives_lent b c ≡ formed (profile_of b) (gives (profile_of b) (behind b) c)
form_gives b c f =
    let k = gives_behind (profile_of b) (behind b) c (form_profile b f) in
    subst (λ (l : List ℕ). gives_lent l c ≡ formed (profile_of b) (gives (profile_of b) (behind b) c)) (sym (form_is b f)) k

-- and so what is in form B and not sound (RULES 23.3)
pub unsound_1 : (b : List ℕ) (c : Call) → asks_form c ≡ true → sound_form_b b ≡ false → gives_lent b c ≡ number_only 1 b (room_of c)
unfolding sound_form_b
unsound_1 b c h e = go (in_form_b b) refl
  where
    go : (f : Bool) → in_form_b b ≡ f → gives_lent b c ≡ number_only 1 b (room_of c)
    go true f =
        form_gives b c f
        ∙ ap (formed (profile_of b)) (gives_1 (profile_of b) (behind b) c h (rw f at e))
        ∙ ap (λ (l : List ℕ). number_only 1 l (room_of c)) (sym (form_is b f))
    go false f = unformed_1 b c h f

-- what is sound in form B is the memory that the call is made on, with its profile ahead
pub sound_gives : (b : List ℕ) (c : Call) → sound_form_b b ≡ true → gives_lent b c ≡ formed (profile_of b) (gives (profile_of b) (behind b) c)
sound_gives b c e = form_gives b c (sound-form b e)

pub gates_1 : (b : List ℕ) (z : ℤ) → sound_form_b b ≡ false → gates b z ≡ refused 1
unfolding gates sound_form_b first_failed when_passed
gates_1 b z e = go (in_form_b b) refl
  where
    go : (f : Bool) → in_form_b b ≡ f → gates b z ≡ refused 1
    go true f = rw f (gates_unsound (profile_of b) (behind b) z (rw f at e))
    go false f = rw f

pub gates-sound : (b : List ℕ) (z : ℤ) → sound_form_b b ≡ true → gates b z ≡ driver.gates (profile_of b) (behind b) z
unfolding gates first_failed when_passed
gates-sound b z e = rw (sound-form b e)

-- ---- making fresh asks for 2,101 octets and a profile that there is, and gives that profile and fresh memory whatever they were (RULES 6.4, 24.2)

pub make_fresh_unformed : (b : List ℕ) (q : ℕ) → length b ≢ 2101 → make_fresh b q ≡ number_only 1 b []
unfolding make_fresh fresh_checks call first_failed when_passed
make_fresh_unformed b q h = rw (ne_eqb (length b) form_length h)

pub make_fresh_unknown : (b : List ℕ) (q : ℕ) → length b ≡ 2101 → q ≢ 2 → q ≢ 3 → make_fresh b q ≡ number_only 18 b []
unfolding make_fresh fresh_checks call first_failed when_passed is_profile
make_fresh_unknown b q h x y = rw (eq-eqb (length b) form_length h, ne_eqb q 2 x, ne_eqb q 3 y)

pub make_fresh_forms : (b : List ℕ) (q : ℕ) → length b ≡ 2101 → (q ≡ 2) ⊎ (q ≡ 3) → make_fresh b q ≡ number_only 0 (q ∷ fresh_octets) []
unfolding make_fresh fresh_checks call first_failed when_passed
make_fresh_forms b q h k =
    simp (eq-eqb (length b) form_length h, profile_closed q k)
    (ap (formed q) (make_fresh_gives (behind b) (length-drop 1 b ∙ omega (arith, h))))

pub fresh-sound_in : (q : ℕ) → (q ≡ 2) ⊎ (q ≡ 3) → sound_form_b (q ∷ fresh_octets) ≡ true
fresh-sound_in q k = subst (λ (l : List ℕ). sound_form_b (ahead q l) ≡ true) fresh_spelt (ahead-sound q fresh (profile_closed q k) (fresh_in q))

-- what holds of its three answers holds of making fresh
fresh_either : (P : Outcome → Type 0) (b : List ℕ) (q : ℕ) → P (number_only 1 b []) → P (number_only 18 b []) → ((q ≡ 2) ⊎ (q ≡ 3) → P (number_only 0 (q ∷ fresh_octets) [])) → P (make_fresh b q)
fresh_either P b q f g h = go (ℕ_discrete (length b) 2101) (is_profile q) refl
  where
    go : Dec (length b ≡ 2101) → (k : Bool) → is_profile q ≡ k → P (make_fresh b q)
    go (yes l) true k = rw (make_fresh_forms b q l (profile_opened q k)) (h (profile_opened q k))
    go (yes l) false k = let n = profile_none q k in rw (make_fresh_unknown b q l n.0 n.1) g
    go (no l) k e = rw (make_fresh_unformed b q l) f

pub fresh-refused : (b : List ℕ) (q : ℕ) → 1 ≤ (make_fresh b q).number → Unchanged (make_fresh b q) b []
fresh-refused b q =
    fresh_either (λ o. 1 ≤ o.number → Unchanged o b []) b q
    (λ h. record { nothing = refl; same_memory = refl; same_room = refl })
    (λ h. record { nothing = refl; same_memory = refl; same_room = refl })
    (λ k h. absurd (omega (arith, h)))

pub fresh-room : (b : List ℕ) (q : ℕ) → RoomAfter (make_fresh b q) []
fresh-room b q =
    fresh_either (λ o. RoomAfter o []) b q (record { in_room = omega arith; long = refl; after = refl }) (record { in_room = omega arith; long = refl; after = refl })
    (λ k. record { in_room = omega arith; long = refl; after = refl })

pub fresh_nowhere : (b : List ℕ) (q : ℕ) → (make_fresh b q).position ≡ 0
fresh_nowhere b q = fresh_either (λ o. o.position ≡ 0) b q refl refl (λ k. refl)

-- ---- what stays

gives_in : (p : ℕ) (m : List ℕ) (c : Call) → sound_in p m ≡ true → sound_in p (gives p m c).memory ≡ true
unfolding gives
gives_in p m refresh s = rw (make_fresh_gives m (opened m (in_sound p m s)).long) (rw fresh_spelt at (fresh_in p))
gives_in p m (take_message t room) s = message_in p m t room s
gives_in p m (take_value n v) s = local_value_in p m n v s
gives_in p m (build_in room) s = build_in_lem p m room s
gives_in p m take_expiry s = expiry_in p m s

-- sound form B is sound form B again after each call (RULES 5.15, 23.4)
pub lent-sound : (b : List ℕ) (c : Call) → sound_form_b b ≡ true → sound_form_b (gives_lent b c).memory ≡ true
lent-sound b c e =
    let h = sound_opened b e in
    rw (sound_gives b c e) (ahead-sound (profile_of b) _ (form_profile b (sound-form b e)) (gives_in (profile_of b) (behind b) c h.1))

gives_refused : (p : ℕ) (m : List ℕ) (c : Call) → 1 ≤ (gives p m c).number → (gives p m c).number ≤ 18 → Unchanged (gives p m c) m (room_of c)
unfolding gives room_of
gives_refused p m refresh h l = make_fresh-refused m h
gives_refused p m (take_message s room) h l = message-refused p m s room h
gives_refused p m (take_value n v) h l = local_value-refused p m n v h
gives_refused p m (build_in room) h l = build-refused p m room h
gives_refused p m take_expiry h l = expiry-refused p m h l

-- what a law says of each call with a profile ahead of memory, and where it is refused with 1 or with 18, it says of each call
lent_either : (P : List ℕ → Call → Outcome → Type 0) → ((p : ℕ) (m : List ℕ) (c : Call) → P (ahead p m) c (formed p (gives p m c)))
    → ((b : List ℕ) (c : Call) → P b c (number_only 1 b (room_of c)))
    → ((b : List ℕ) → P b refresh (number_only 18 b []))
    → (b : List ℕ) (c : Call) → P b c (gives_lent b c)
unfolding gives_lent room_of asks_form
lent_either P f g h b c = go (in_form_b b) refl c
  where
    fresh_one : in_form_b b ≡ false → Dec (length b ≡ 2101) → P b refresh (make_fresh b (profile_of b))
    fresh_one e (yes l) =
        rw (make_fresh_unknown b (profile_of b) l (λ x. false≢true (sym e ∙ form_closed b record { long = l; first = inl x })) (λ x. false≢true (sym e ∙ form_closed b record { long = l; first = inr x })))
        (h b)
    fresh_one e (no l) = rw (make_fresh_unformed b (profile_of b) l) (g b refresh)

    go : (fit : Bool) → in_form_b b ≡ fit → (c : Call) → P b c (gives_lent b c)
    go true e c =
        let k : P (ahead (profile_of b) (behind b)) c (gives_lent b c) = rw (form_gives b c e) (f (profile_of b) (behind b) c) in
        subst (λ (l : List ℕ). P l c (gives_lent b c)) (sym (form_is b e)) k
    go false e refresh = fresh_one e (ℕ_discrete (length b) 2101)
    go false e (take_message s room) = rw (unformed_1 b (take_message s room) refl e) (g b (take_message s room))
    go false e (take_value n v) = rw (unformed_1 b (take_value n v) refl e) (g b (take_value n v))
    go false e (build_in room) = rw (unformed_1 b (build_in room) refl e) (g b (build_in room))
    go false e take_expiry = rw (unformed_1 b take_expiry refl e) (g b take_expiry)

-- a refusal has length 0 and leaves every lent octet (RULES 15.24, 15.25)
pub lent-refused : (b : List ℕ) (c : Call) → 1 ≤ (gives_lent b c).number → (gives_lent b c).number ≤ 18 → Unchanged (gives_lent b c) b (room_of c)
unfolding room_of
lent-refused =
    lent_either (λ b c o. 1 ≤ o.number → o.number ≤ 18 → Unchanged o b (room_of c))
    (λ p m c h l. let u = gives_refused p m c h l in record { nothing = u.nothing; same_memory = ap (ahead p) u.same_memory; same_room = u.same_room })
    (λ b c h l. record { nothing = refl; same_memory = refl; same_room = refl })
    (λ b h l. record { nothing = refl; same_memory = refl; same_room = refl })

-- no call but making fresh in another profile changes the profile (RULES 23.4, 24.2)
pub profile_stays : (b : List ℕ) (c : Call) → profile_of (gives_lent b c).memory ≡ profile_of b
profile_stays = lent_either (λ b c o. profile_of o.memory ≡ profile_of b) (λ p m c. refl) (λ b c. refl) (λ b. refl)

gives_room : (p : ℕ) (m : List ℕ) (c : Call) → RoomAfter (gives p m c) (room_of c)
unfolding gives room_of
gives_room p m refresh = make_fresh-room m
gives_room p m (take_message s room) = message-room p m s room
gives_room p m (take_value n v) = local_value-room p m n v
gives_room p m (build_in room) = build-room p m room
gives_room p m take_expiry = expiry-room p m

-- what is written stands at the room's start, and what the room holds behind it stays (RULES 2.6)
pub lent-room : (b : List ℕ) (c : Call) → RoomAfter (gives_lent b c) (room_of c)
unfolding room_of
lent-room =
    lent_either (λ b c o. RoomAfter o (room_of c))
    (λ p m c. let r = gives_room p m c in record { in_room = r.in_room; long = r.long; after = r.after })
    (λ b c. record { in_room = omega arith; long = refl; after = refl })
    (λ b. record { in_room = omega arith; long = refl; after = refl })

gives_nowhere : (p : ℕ) (m : List ℕ) (c : Call) → (gives p m c).number ≢ 6 → (gives p m c).position ≡ 0
unfolding gives
gives_nowhere p m refresh h = make_fresh_nowhere m
gives_nowhere p m (take_message s room) h = message_nowhere p m s room h
gives_nowhere p m (take_value n v) h = local_value_nowhere p m n v
gives_nowhere p m (build_in room) h = build_nowhere p m room
gives_nowhere p m take_expiry h = expiry_nowhere p m

-- a position is told with number 6 alone (RULES 15.28)
pub lent_nowhere : (b : List ℕ) (c : Call) → (gives_lent b c).number ≢ 6 → (gives_lent b c).position ≡ 0
lent_nowhere = lent_either (λ b c o. o.number ≢ 6 → o.position ≡ 0) (λ p m c h. gives_nowhere p m c h) (λ b c h. refl) (λ b h. refl)

gives_position : (p : ℕ) (m : List ℕ) (c : Call) → (gives p m c).position ≤ 2051
unfolding gives
gives_position p m refresh = omega (arith, make_fresh_nowhere m)
gives_position p m (take_message s room) = position-most p m s room
gives_position p m (take_value n v) = omega (arith, local_value_nowhere p m n v)
gives_position p m (build_in room) = omega (arith, build_nowhere p m room)
gives_position p m take_expiry = omega (arith, expiry_nowhere p m)

-- and none has more than four digits
pub lent-position : (b : List ℕ) (c : Call) → (gives_lent b c).position ≤ 2051
lent-position = lent_either (λ b c o. o.position ≤ 2051) (λ p m c. gives_position p m c) (λ b c. omega arith) (λ b. omega arith)

-- a call that is not refused with 1 was lent memory in form B
pub not_1_in : (b : List ℕ) (c : Call) → asks_form c ≡ true → (gives_lent b c).number ≢ 1 → in_form_b b ≡ true
not_1_in b c a n = go (in_form_b b) refl
  where
    go : (f : Bool) → in_form_b b ≡ f → in_form_b b ≡ true
    go true f = f
    go false f = absurd (n (ap (λ (o : Outcome). o.number) (unformed_1 b c a f)))

pub not_1_formed : (b : List ℕ) (c : Call) → asks_form c ≡ true → (gives_lent b c).number ≢ 1
    → (b ≡ ahead (profile_of b) (behind b)) × (gives_lent b c ≡ formed (profile_of b) (gives (profile_of b) (behind b) c))
not_1_formed b c a n = let f = not_1_in b c a n in (form_is b f, form_gives b c f)
