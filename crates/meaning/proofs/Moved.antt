-- The moves between the old form and form B (RULES 23.7 to 23.16): when each is done, what it writes, there and back, and what a controller sees of it.
use Prim.Native.Nat.{ℕ, suc, ◌≤◌, ◌<◌}
use native.Mathlib.Omega.{arith}
use mathlib.Core.Path.{◌≡◌, refl, sym, ap, ◌∙◌}
use mathlib.Core.Logic.{◌≢◌, ◌⊎◌}
use mathlib.Core.Bool.{Bool, true, false, ◌||◌, not}
use mathlib.Core.List.{List, ◌∷◌, ◌++◌, append-nil}
use lib.ListN.{length, drop}
use lib.Seq.{drop-length, get_or-drop}
use borrow.Author.Tests.{eqb-true, eq-eqb, ne_eqb}
use Rattle.meaning.specs.Octets.{octet}
use Rattle.meaning.specs.Checks.{Checks, first_failed}
use Rattle.meaning.specs.Table.{entry_count}
use Rattle.meaning.specs.Memory.{present, subscribed, pending, in_flight, body, timer, waiting, sound}
use Rattle.meaning.specs.Profile.{release18, is_profile, is_release16}
use Rattle.meaning.specs.Step.{read_answer}
use Rattle.meaning.specs.Calls.{Outcome, number_only, done, call, reports, notification, expiry}
use Rattle.meaning.specs.FormB.{ahead, profile_of, behind, sound_form_b, formed}
use Rattle.meaning.specs.Moves.{none_in_flight, sound_old, forward_checks, forward, back_checks, back}
use Rattle.meaning.proofs.Tests.{and_left, and_right, and_both, denied, below_at, below_all, first-passed, all_passing}
use Rattle.meaning.proofs.Bounded.{bounded_18}
use Rattle.meaning.proofs.Profiles.{in_sound, sound_in_lem}
use Rattle.meaning.proofs.Checked.{call-done, call-refused, call-passed, call_either}
use Rattle.meaning.proofs.Sound.{opened}
use Rattle.meaning.proofs.Refused.{Unchanged, RoomAfter, call_among, call-room}
use Rattle.meaning.proofs.Flights.{none_while_idle, given_up_leaves}
use Rattle.meaning.proofs.Sendings.{Call, gives}
use Rattle.meaning.proofs.Formed.{ahead-sound, sound_opened, gives_lent, gives_behind, sound_gives}

-- ---- the old form (RULES 23.6)

pub old_sound : (m : List ℕ) → sound_old m ≡ true → sound m ≡ true
unfolding sound_old
old_sound m s = and_left _ _ s

-- what is sound behind a profile is sound memory, and sound memory is so behind that of Release 18, which asks nothing besides
behind-sound : (b : List ℕ) → sound_form_b b ≡ true → sound (behind b) ≡ true
behind-sound b s = in_sound (profile_of b) (behind b) (sound_opened b s).1

old_ahead : (m : List ℕ) → sound m ≡ true → sound_form_b (2 ∷ m) ≡ true
unfolding is_profile is_release16
old_ahead m s = ahead-sound 2 m refl (sound_in_lem 2 m s (bounded_18 2 m refl))

pub none_out : (m : List ℕ) → none_in_flight m ≡ true → (k : ℕ) → k < entry_count → in_flight m k ≡ false
unfolding none_in_flight
none_out m n k h = denied (in_flight m k) (below_at entry_count (λ j. not (in_flight m j)) n k h)

pub all_in : (m : List ℕ) → ((k : ℕ) → k < entry_count → in_flight m k ≡ false) → none_in_flight m ≡ true
unfolding none_in_flight
all_in m f = below_all entry_count (λ j. not (in_flight m j)) (λ k h. ap not (f k h))

-- ---- the numbers (RULES 23.9), and what is written where the number is 0 (RULES 23.7, 23.8, 23.10)

-- done: the octets w fill the room, and the memory that was read is as it was
abbrev pub moved : List ℕ → List ℕ → Outcome
moved w m = record { number = 0; position = 0; written = w; memory = m; room = w }

filled : (cs : Checks) (w m room : List ℕ) → first_failed cs ≡ 0 → length w ≡ length room → call cs (done w m room) m room ≡ moved w m
filled cs w m room e h =
    call-done cs (done w m room) m room e
    ∙ ap (λ (r : List ℕ). record { number = 0; position = 0; written = w; memory = m; room = w ++ r })
    (ap (λ (n : ℕ). drop n room) h ∙ drop-length room)
    ∙ ap (λ (r : List ℕ). record { number = 0; position = 0; written = w; memory = m; room = r }) (append-nil w)

module _ (m room : List ℕ) where
  pub forward_1 : sound_old m ≡ false → forward m room ≡ number_only 1 m room
  unfolding forward forward_checks first_failed
  forward_1 e = call-refused (forward_checks m (length room)) _ m room 0 (simp e)

  pub forward_16 : sound_old m ≡ true → length room ≢ 2101 → forward m room ≡ number_only 16 m room
  unfolding forward forward_checks first_failed
  forward_16 s h = call-refused (forward_checks m (length room)) _ m room 15 (simp (s, ne_eqb (length room) 2101 h))

  pub forward-done : sound_old m ≡ true → length room ≡ 2101 → forward m room ≡ moved (2 ∷ m) m
  unfolding forward forward_checks
  forward-done s h =
      let l = (opened m (old_sound m s)).long in
      filled (forward_checks m (length room)) (2 ∷ m) m room (all_passing (forward_checks m (length room)) (s, (eq-eqb (length room) 2101 h, tt))) (omega (arith, l, h))

  pub forward_opened : (forward m room).number ≡ 0 → (sound_old m ≡ true) × (length room ≡ 2101)
  unfolding forward forward_checks
  forward_opened e =
      let f = call-passed (forward_checks m (length room)) _ m room e in
      let g = first-passed 0 _ _ f in
      (g.0, eqb-true _ _ (first-passed 15 _ _ g.1).0)

  pub forward-number : let n = (forward m room).number in
      (n ≡ 1) ⊎ ((n ≡ 16) ⊎ (n ≡ 0))
  unfolding forward forward_checks
  forward-number = call_among (forward_checks m (length room)) _ m room refl

module _ (b room : List ℕ) where
  pub back_1 : sound_form_b b ≡ false → back b room ≡ number_only 1 b room
  unfolding back back_checks first_failed
  back_1 e = call-refused (back_checks b (length room)) _ b room 0 (simp e)

  pub back_16 : sound_form_b b ≡ true → length room ≢ 2100 → back b room ≡ number_only 16 b room
  unfolding back back_checks first_failed
  back_16 s h = call-refused (back_checks b (length room)) _ b room 15 (simp (s, ne_eqb (length room) 2100 h))

  -- only Release 18 has an old form (RULES 24.11)
  pub back_19 : sound_form_b b ≡ true → length room ≡ 2100 → profile_of b ≢ 2 → back b room ≡ number_only 19 b room
  unfolding back back_checks first_failed
  back_19 s h q = call-refused (back_checks b (length room)) _ b room 18 (simp (s, eq-eqb (length room) 2100 h, ne_eqb (profile_of b) 2 q))

  pub back_17 : sound_form_b b ≡ true → length room ≡ 2100 → profile_of b ≡ 2 → none_in_flight (behind b) ≡ false → back b room ≡ number_only 17 b room
  unfolding back back_checks first_failed
  back_17 s h q n = call-refused (back_checks b (length room)) _ b room 16 (simp (s, eq-eqb (length room) 2100 h, eq-eqb (profile_of b) 2 q, n))

  pub back_done : sound_form_b b ≡ true → length room ≡ 2100 → profile_of b ≡ 2 → none_in_flight (behind b) ≡ true → back b room ≡ moved (drop 1 b) b
  unfolding back back_checks
  back_done s h q n =
      let l = (opened (behind b) (behind-sound b s)).long in
      filled (back_checks b (length room)) (behind b) b room (all_passing (back_checks b (length room)) (s, (eq-eqb (length room) 2100 h, (eq-eqb (profile_of b) 2 q, (n, tt))))) (omega (arith, l, h))

  pub back_opened : (back b room).number ≡ 0 → (sound_form_b b ≡ true) × (length room ≡ 2100) × (profile_of b ≡ 2) × (none_in_flight (behind b) ≡ true)
  unfolding back back_checks
  back_opened e =
      let f = call-passed (back_checks b (length room)) _ b room e in
      let g = first-passed 0 _ _ f in
      let h = first-passed 15 _ _ g.1 in
      let q = first-passed 18 _ _ h.1 in
      (g.0, eqb-true _ _ h.0, eqb-true _ _ q.0, (first-passed 16 _ _ q.1).0)

  pub back-number : let n = (back b room).number in
      (n ≡ 1) ⊎ ((n ≡ 16) ⊎ ((n ≡ 19) ⊎ ((n ≡ 17) ⊎ (n ≡ 0))))
  unfolding back back_checks
  back-number = call_among (back_checks b (length room)) _ b room refl

-- ---- what is left as it was (RULES 23.10, 23.11)

pub forward_leaves : (m room : List ℕ) → (forward m room).memory ≡ m
unfolding forward
forward_leaves m room = call_either (λ o. o.memory ≡ m) (forward_checks m (length room)) _ m room (λ e. refl) (λ n e. refl)

pub back_leaves : (b room : List ℕ) → (back b room).memory ≡ b
unfolding back
back_leaves b room = call_either (λ o. o.memory ≡ b) (back_checks b (length room)) _ b room (λ e. refl) (λ n e. refl)

refusal : (cs : Checks) (w m room : List ℕ) → 1 ≤ (call cs (done w m room) m room).number → Unchanged (call cs (done w m room) m room) m room
refusal cs w m room =
    call_either (λ o. 1 ≤ o.number → Unchanged o m room) cs (done w m room) m room (λ e h. absurd (omega (arith, h)))
    (λ n e h. record { nothing = refl; same_memory = refl; same_room = refl })

pub forward-refused : (m room : List ℕ) → 1 ≤ (forward m room).number → Unchanged (forward m room) m room
unfolding forward
forward-refused m room = refusal (forward_checks m (length room)) (ahead release18 m) m room

pub back-refused : (b room : List ℕ) → 1 ≤ (back b room).number → Unchanged (back b room) b room
unfolding back
back-refused b room = refusal (back_checks b (length room)) (behind b) b room

-- the room is as long as it was
pub forward-room : (m room : List ℕ) → RoomAfter (forward m room) room
unfolding forward forward_checks
forward-room m room =
    call-room (forward_checks m (length room)) (ahead release18 m) m m room
    (λ e.
    let g = first-passed 0 _ _ e in
    omega (arith, (opened m (old_sound m g.0)).long, eqb-true (length room) 2101 (first-passed 15 _ _ g.1).0))

pub back-room : (b room : List ℕ) → RoomAfter (back b room) room
unfolding back back_checks
back-room b room =
    call-room (back_checks b (length room)) (behind b) b b room
    (λ e.
    let g = first-passed 0 _ _ e in
    omega (arith, (opened (behind b) (behind-sound b g.0)).long, eqb-true (length room) 2100 (first-passed 15 _ _ g.1).0))

-- ---- octet for octet

pub forward-octets : (m room : List ℕ) → (forward m room).number ≡ 0
    → let w = (forward m room).written in
    (length w ≡ 2101) × (octet w 0 ≡ 2) × ((i : ℕ) → octet w (suc i) ≡ octet m i)
forward-octets m room e =
    let p = forward_opened m room e in
    let l = (opened m (old_sound m p.0)).long in
    rw (forward-done m room p.0 p.1) (omega (arith, l), refl, λ i. refl)

pub back-octets : (b room : List ℕ) → (back b room).number ≡ 0
    → let w = (back b room).written in
    (length w ≡ 2100) × ((i : ℕ) → octet w i ≡ octet b (suc i))
back-octets b room e =
    let p = back_opened b room e in
    rw (back_done b room p.0 p.1 p.2 p.3) ((opened (behind b) (behind-sound b p.0)).long, λ i. get_or-drop 1 b i 0 ∙ ap (λ (j : ℕ). octet b j) (omega arith))

-- ---- what comes out is sound in the other form, with every entry, every mark and the timer (RULES 23.12)

pub record Keeps (m m' : List ℕ) : Type 0 where
  pub presences : (k : ℕ) → present m' k ≡ present m k
  pub values : (k : ℕ) → body m' k ≡ body m k
  pub subscriptions : (k : ℕ) → subscribed m' k ≡ subscribed m k
  pub pendencies : (k : ℕ) → pending m' k ≡ pending m k
  pub timer : timer m' ≡ timer m
  pub waits : waiting m' ≡ waiting m
  pub none_in_flight : (k : ℕ) → k < entry_count → in_flight m' k ≡ false

keeps_same : (m : List ℕ) → none_in_flight m ≡ true → Keeps m m
keeps_same m n =
    record {
      presences = λ k. refl;
      values = λ k. refl;
      subscriptions = λ k. refl;
      pendencies = λ k. refl;
      timer = refl;
      waits = refl;
      none_in_flight = none_out m n;
    }

module _ (m room : List ℕ) (e : (forward m room).number ≡ 0) where
  forward_is : forward m room ≡ moved (ahead release18 m) m
  forward_is = let p = forward_opened m room e in forward-done m room p.0 p.1

  pub forward-sound : sound_form_b (forward m room).written ≡ true
  forward-sound = rw forward_is (old_ahead m (old_sound m (forward_opened m room e).0))

  pub forward-keeps : Keeps m (behind (forward m room).written)
  unfolding sound_old
  forward-keeps = rw forward_is (keeps_same m (and_right (sound m) _ (forward_opened m room e).0))

module _ (b room : List ℕ) (e : (back b room).number ≡ 0) where
  back_is : back b room ≡ moved (behind b) b
  back_is = let p = back_opened b room e in back_done b room p.0 p.1 p.2 p.3

  pub back-sound : sound_old (back b room).written ≡ true
  unfolding sound_old
  back-sound = let p = back_opened b room e in rw back_is (and_both (behind-sound b p.0) p.3)

  pub back-keeps : Keeps (behind b) (back b room).written
  back-keeps = rw back_is (keeps_same (behind b) (back_opened b room e).3)

-- ---- there and back gives the same octets (RULES 23.13)

pub there_and_back : (m room room' : List ℕ) → sound_old m ≡ true → length room ≡ 2101 → length room' ≡ 2100 → back (forward m room).written room' ≡ moved m (2 ∷ m)
unfolding sound_old
there_and_back m room room' s h h' =
    rw (forward-done m room s h) (back_done (2 ∷ m) room' (old_ahead m (old_sound m s)) h' refl (and_right (sound m) _ s))

pub back_and_there : (b room room' : List ℕ) → sound_form_b b ≡ true → profile_of b ≡ 2 → none_in_flight (behind b) ≡ true → length room ≡ 2100 → length room' ≡ 2101
    → forward (back b room).written room' ≡ moved b (drop 1 b)
unfolding sound_old
back_and_there b room room' s q n h h' =
    rw (back_done b room s h q n)
    (forward-done (behind b) room' (and_both (behind-sound b s) n) h'
    ∙ ap (λ (w : List ℕ). moved w (drop 1 b)) (sym ((sound_opened b s).0 ∙ ap (λ (x : ℕ). ahead x (behind b)) q)))

-- ---- what a controller sees (RULES 23.14): each read, each notification that is due, and whatever else a call gives

pub record SeenAlike (m m' : List ℕ) : Type 0 where
  pub reads : (n : ℕ) → read_answer 2 m' n ≡ read_answer 2 m n
  pub due : reports 2 m' entry_count ≡ reports 2 m entry_count
  pub told : notification 2 m' ≡ notification 2 m

pub forward_seen : (m room : List ℕ) → (forward m room).number ≡ 0 → SeenAlike m (behind (forward m room).written)
forward_seen m room e = rw (forward_is m room e) record { reads = λ n. refl; due = refl; told = refl }

pub back_seen : (b room : List ℕ) → (back b room).number ≡ 0 → SeenAlike (behind b) (back b room).written
back_seen b room e = rw (back_is b room e) record { reads = λ n. refl; due = refl; told = refl }

pub forward_unnoticed : (m room : List ℕ) → (forward m room).number ≡ 0 → (c : Call) → gives_lent (forward m room).written c ≡ formed 2 (gives 2 m c)
forward_unnoticed m room e c = rw (forward_is m room e) (gives_behind 2 m c (unfold is_profile in refl))

pub back_unnoticed : (b room : List ℕ) → (back b room).number ≡ 0 → (c : Call) → gives_lent b c ≡ formed 2 (gives 2 (back b room).written c)
back_unnoticed b room e c =
    let h = back_opened b room e in
    rw (back_is b room e) (sound_gives b c h.0 ∙ ap (λ (x : ℕ). formed x (gives x (behind b) c)) h.2)

-- ---- a port that waits, and one that is idle

-- what was told before a move forward is not pending again once it is given up (RULES 23.15)
pub given_up_forgets : (m : List ℕ) → sound_old m ≡ true → (expiry 2 m).number ≡ 21 → (k : ℕ) → k < entry_count → pending (expiry 2 m).memory k ≡ pending m k
unfolding sound_old
given_up_forgets m s e k h = (given_up_leaves 2 m e).pendencies k h ∙ rw (none_out m (and_right (sound m) _ s) k h) (or-false (pending m k))
  where
    or-false : (q : Bool) → (q || false) ≡ q
    or-false true = refl
    or-false false = refl

-- while idle a move back is never refused with 17 (RULES 23.16)
pub idle_moves_back : (b room : List ℕ) → sound_form_b b ≡ true → profile_of b ≡ 2 → waiting (behind b) ≡ false → length room ≡ 2100 → back b room ≡ moved (drop 1 b) b
idle_moves_back b room s q w h = back_done b room s h q (all_in (behind b) (none_while_idle (behind b) (behind-sound b s) w))
