-- A local value once more: exactly when it is done (RULES 13.1, 13.2), by name, length and octets, and what it leaves of every entry and of the timer
-- (RULES 13.3 to 13.10).
use Prim.Native.Nat.{ℕ, ◌≤◌, ◌<◌}
use native.Mathlib.Omega.{arith}
use mathlib.Core.Path.{◌≡◌, refl, sym, ap, ◌∙◌, subst}
use mathlib.Core.Logic.{◌≢◌, ◌↔◌, ◌⊎◌, inl, inr, ⊎_elim}
use mathlib.Core.Bool.{Bool, true, false, ◌&&◌, ◌||◌, not, or-true, false≢true}
use mathlib.Core.List.{List, [], ◌∷◌}
use lib.ListN.{length}
use lib.Dec.{eqb, leb, ltb}
use borrow.Author.Tests.{leb-true, le-leb, eqb-true}
use Rattle.meaning.specs.Octets.{octet, nonempty, every, below, implies, same}
use Rattle.meaning.specs.Table.{Owner, port, free, within, row, row_at, rows, place, place_in, by_port, entry_count}
use Rattle.meaning.specs.Block.{permits}
use Rattle.meaning.specs.Memory.{cell, room, timer, body, present, subscribed, pending, in_flight}
use Rattle.meaning.specs.Profile.{sound_in}
use Rattle.meaning.specs.Calls.{Outcome, number_only, local_permitted, local_checks, local_memory, local_value, differs}
use Rattle.meaning.proofs.Lists.{Each}
use Rattle.meaning.proofs.Tests.{or_cases, and_left, and_right, and_both, not-true, implied, same_true, same_refl, below_at, first-passed, all_passing}
use Rattle.meaning.proofs.Values.{permits_opened, permits_closed, free_spelt, octet_spelt}
use Rattle.meaning.proofs.Places.{cell-put_other, room-put_other, timer-put}
use Rattle.meaning.proofs.Profiles.{in_sound}
use Rattle.meaning.proofs.Sound.{opened}
use Rattle.meaning.proofs.Checked.{call-done, call-passed}
use Rattle.meaning.proofs.Kept.{local_opened, local_held}
use Rattle.meaning.proofs.Marks.{local_marks_after}
use Rattle.meaning.proofs.Running.{place-name}
use Rattle.meaning.proofs.Stored.{local_leaves}

-- ---- when it is done

-- nothing at all, or octets of this sort
abbrev pub OrNone : List ℕ → Type 0 → Type 0
OrNone v P = (v ≡ []) ⊎ P

-- one octet, 01 to 07
abbrev pub Subtype : List ℕ → Type 0
Subtype v = (length v ≡ 1) × (1 ≤ octet v 0) × (octet v 0 ≤ 7)

abbrev pub Identifier : List ℕ → Type 0
Identifier v = (1 ≤ length v) × (length v ≤ 255)

-- the seven names that the port sets, and what each takes
pub data Given (n : ℕ) (v : List ℕ) : Type 0 where
  propagation_delay : n ≡ 0x0001 → OrNone v (length v ≡ 8) → Given n v
  tick_granularity : n ≡ 0x0008 → OrNone v (length v ≡ 4) → Given n v
  chassis_subtype : n ≡ 0x00A0 → OrNone v (Subtype v) → Given n v
  chassis_id : n ≡ 0x00A1 → OrNone v (Identifier v) → Given n v
  port_subtype : n ≡ 0x00A2 → OrNone v (Subtype v) → Given n v
  port_id : n ≡ 0x00A3 → OrNone v (Identifier v) → Given n v
  time_to_live : n ≡ 0x00A4 → OrNone v (length v ≡ 2) → Given n v

-- ---- what a row takes

any_row : (n a b : ℕ) (o : Owner) (v : List ℕ) → (permits (row n a b o free) v ≡ true) ↔ ((a ≤ length v) × (length v ≤ b))
any_row n a b o v = (
  λ e. let h = permits_opened (row n a b o free) v e in (h.0, h.1),
  λ h. permits_closed (row n a b o free) v (h.0, h.1, free_spelt v),
)

octet-row : (n a b : ℕ) (o : Owner) (v : List ℕ) → (permits (row n 1 1 o (within a b)) v ≡ true) ↔ ((length v ≡ 1) × (a ≤ octet v 0) × (octet v 0 ≤ b))
octet-row n a b o v = (to, from)
  where
    to : permits (row n 1 1 o (within a b)) v ≡ true → (length v ≡ 1) × (a ≤ octet v 0) × (octet v 0 ≤ b)
    to e =
        let h = permits_opened (row n 1 1 o (within a b)) v e in
        let l : length v ≡ 1 = omega (arith, h.0, h.1) in
        let t : (leb a (octet v 0) && leb (octet v 0) b) ≡ true = sym (octet_spelt a b v l) ∙ h.2 in
        (l, leb-true _ _ (and_left _ _ t), leb-true _ _ (and_right (leb a (octet v 0)) _ t))

    from : (length v ≡ 1) × (a ≤ octet v 0) × (octet v 0 ≤ b) → permits (row n 1 1 o (within a b)) v ≡ true
    from h =
        permits_closed (row n 1 1 o (within a b)) v
        (omega (arith, h.0), omega (arith, h.0), octet_spelt a b v h.0 ∙ and_both (le-leb _ _ h.1) (le-leb _ _ h.2))

-- ---- the names, by their places in the table

abbrev among : List ℕ → ℕ → Bool
among [] k = false
among (j ∷ js) k = eqb k j || among js k

pick : {P : Type 0} (k : ℕ) (js : List ℕ) → among js k ≡ true → Each (λ j. k ≡ j → P) js → P
pick k [] e f = absurd (false≢true e)
pick k (j ∷ js) e f = ⊎_elim (λ d. f.0 (eqb-true k j d)) (λ d. pick k js d f.1) (or_cases (eqb k j) (among js k) e)

abbrev port_places : List ℕ
port_places = 0 ∷ 6 ∷ 13 ∷ 14 ∷ 15 ∷ 16 ∷ 17 ∷ []

all-places : below entry_count (λ k. implies (by_port (row_at k).owner) (among port_places k)) ≡ true
unfolding below implies by_port row_at rows
all-places = refl

-- a name of the table at a known place
pub name_at_lem : (n k : ℕ) → place n < entry_count → place n ≡ k → n ≡ (row_at k).name
name_at_lem n k l e = sym (place-name n l) ∙ ap (λ (j : ℕ). (row_at j).name) e

-- empty, or permitted by the row
abbrev Allowed : ℕ → List ℕ → Type 0
Allowed k v = OrNone v (permits (row_at k) v ≡ true)

allowed : (k : ℕ) (v : List ℕ) → (not (nonempty v) || permits (row_at k) v) ≡ true → Allowed k v
allowed k [] e = inl refl
allowed k (x ∷ v) e = inr e

allows : (k : ℕ) (v : List ℕ) → Allowed k v → (not (nonempty v) || permits (row_at k) v) ≡ true
allows k v (inl e) = rw e
allows k v (inr e) = rw (e, or-true (not (nonempty v)))

map_or : {v : List ℕ} {P Q : Type 0} → (P → Q) → OrNone v P → OrNone v Q
map_or f (inl e) = inl e
map_or f (inr p) = inr (f p)

just : (a n : ℕ) → (a ≤ n) × (n ≤ a) → n ≡ a
just a n h = omega (arith, h.0, h.1)

-- ---- so it is done exactly then

module _ (n : ℕ) (v : List ℕ) where
  given_at : place n < entry_count → among port_places (place n) ≡ true → Allowed (place n) v → Given n v
  unfolding row_at rows
  given_at l e a =
      let at : (k : ℕ) → place n ≡ k → Allowed k v = λ k p. subst (λ (j : ℕ). Allowed j v) p a in
      let at0 : place n ≡ 0 → Given n v =
      λ p. propagation_delay (name_at_lem n 0 l p) (map_or (λ h. just 8 (length v) ((any_row 0x0001 8 8 port v).0 h)) (at 0 p)) in
      let at6 : place n ≡ 6 → Given n v =
      λ p. tick_granularity (name_at_lem n 6 l p) (map_or (λ h. just 4 (length v) ((any_row 0x0008 4 4 port v).0 h)) (at 6 p)) in
      let at13 : place n ≡ 13 → Given n v =
      λ p. chassis_subtype (name_at_lem n 13 l p) (map_or (octet-row 0x00A0 1 7 port v).0 (at 13 p)) in
      let at14 : place n ≡ 14 → Given n v = λ p. chassis_id (name_at_lem n 14 l p) (map_or (any_row 0x00A1 1 255 port v).0 (at 14 p)) in
      let at15 : place n ≡ 15 → Given n v = λ p. port_subtype (name_at_lem n 15 l p) (map_or (octet-row 0x00A2 1 7 port v).0 (at 15 p)) in
      let at16 : place n ≡ 16 → Given n v = λ p. port_id (name_at_lem n 16 l p) (map_or (any_row 0x00A3 1 255 port v).0 (at 16 p)) in
      let at17 : place n ≡ 17 → Given n v =
      λ p. time_to_live (name_at_lem n 17 l p) (map_or (λ h. just 2 (length v) ((any_row 0x00A4 2 2 port v).0 h)) (at 17 p)) in
      pick (place n) port_places e (at0, (at6, (at13, (at14, (at15, (at16, (at17, tt)))))))

  permitted_given : local_permitted n v ≡ true → Given n v
  permitted_given e =
      let l = local_opened n v e in
      given_at l.in_table
      (implied _ _ (below_at entry_count (λ k. implies (by_port (row_at k).owner) (among port_places k)) all-places (place n) l.in_table) l.by_the_port)
      (allowed (place n) v l.allowed)

  -- a name whose place and owner are computed
  named : (k : ℕ) (i : ℕ) → n ≡ i → (place i ≡ k) × (ltb k entry_count ≡ true) × (by_port (row_at k).owner ≡ true) → Allowed k v → local_permitted n v ≡ true
  unfolding local_permitted every
  named k i e h a = rw (e, h.0, h.1, h.2, allows k v a)

  given_permitted : Given n v → local_permitted n v ≡ true
  unfolding place place_in row_at rows by_port
  given_permitted (propagation_delay e o) = named 0 0x0001 e (refl, refl, refl) (map_or (λ h. (any_row 0x0001 8 8 port v).1 (omega (arith, h), omega (arith, h))) o)
  given_permitted (tick_granularity e o) = named 6 0x0008 e (refl, refl, refl) (map_or (λ h. (any_row 0x0008 4 4 port v).1 (omega (arith, h), omega (arith, h))) o)
  given_permitted (chassis_subtype e o) = named 13 0x00A0 e (refl, refl, refl) (map_or (octet-row 0x00A0 1 7 port v).1 o)
  given_permitted (chassis_id e o) = named 14 0x00A1 e (refl, refl, refl) (map_or (any_row 0x00A1 1 255 port v).1 o)
  given_permitted (port_subtype e o) = named 15 0x00A2 e (refl, refl, refl) (map_or (octet-row 0x00A2 1 7 port v).1 o)
  given_permitted (port_id e o) = named 16 0x00A3 e (refl, refl, refl) (map_or (any_row 0x00A3 1 255 port v).1 o)
  given_permitted (time_to_live e o) = named 17 0x00A4 e (refl, refl, refl) (map_or (λ h. (any_row 0x00A4 2 2 port v).1 (omega (arith, h), omega (arith, h))) o)

module _ (p : ℕ) (m : List ℕ) (n : ℕ) (v : List ℕ) (s : sound_in p m ≡ true) where
  local_passed : (local_value p m n v).number ≡ 0 → local_permitted n v ≡ true
  unfolding local_value local_checks
  local_passed z = (first-passed 11 _ _ (first-passed 0 _ _ (call-passed (local_checks p m n v) _ m [] z)).1).0

  local_memory_lem : local_permitted n v ≡ true → local_value p m n v ≡ number_only 0 (local_memory m (place n) v) []
  unfolding local_value local_checks
  local_memory_lem q = call-done (local_checks p m n v) _ m [] (all_passing (local_checks p m n v) (s, (q, tt)))

  -- whatever else memory holds, waiting or not
  pub local_given : ((local_value p m n v).number ≡ 0) ↔ Given n v
  local_given = (
    λ z. permitted_given n v (local_passed z),
    λ g. ap (λ (o : Outcome). o.number) (local_memory_lem (given_permitted n v g)),
  )

-- ---- what it leaves

-- all octets of another entry, and of the timer
pub record LocalLeaves (m : List ℕ) (k : ℕ) (v m' : List ℕ) : Type 0 where
  pub presence : present m' k ≡ nonempty v
  pub value : body m' k ≡ v
  pub subscription : subscribed m' k ≡ subscribed m k
  pub pendency : (pending m' k ≡ true) ↔ ((pending m k ≡ true) ⊎ ((subscribed m k ≡ true) × (body m k ≢ v)))
  pub flight : in_flight m' k ≡ in_flight m k
  pub others : (j : ℕ) → j < entry_count → j ≢ k → (cell m' j ≡ cell m j) × (room m' j ≡ room m j)
  pub same_timer : timer m' ≡ timer m

differs_spelt : (m : List ℕ) (k : ℕ) (v : List ℕ) → (differs m k v ≡ true) ↔ (body m k ≢ v)
unfolding differs
differs_spelt m k v = (
  λ d e. false≢true (sym (ap not (ap (λ (w : List ℕ). same w v) e ∙ same_refl v)) ∙ d),
  λ ne. ap not (not-true (same (body m k) v) (λ e. ne (same_true (body m k) v e))),
)

pending_spelt : (p s d : Bool) (D : Type 0) → (d ≡ true) ↔ D → ((p || (s && d)) ≡ true) ↔ ((p ≡ true) ⊎ ((s ≡ true) × D))
pending_spelt true s d D f = (λ e. inl refl, λ h. refl)
pending_spelt false true d D f = (λ e. inr (refl, f.0 e), ⊎_elim (λ e. absurd (false≢true e)) (λ h. f.1 h.1))
pending_spelt false false d D f = (λ e. absurd (false≢true e), ⊎_elim (λ e. e) (λ h. h.0))

pub local_done : (p : ℕ) (m : List ℕ) (n : ℕ) (v : List ℕ) → sound_in p m ≡ true → Given n v → LocalLeaves m (place n) v (local_value p m n v).memory
local_done p m n v s g =
    let k = place n in
    let l = local_opened n v (given_permitted n v g) in
    let z = in_sound p m s in
    let hm = (opened m z).long in
    let hk = l.in_table in
    let hv = (local_held (row_at k) v l.allowed).1 in
    let h = local_leaves m n v z l in
    let q = local_marks_after m n v z l in
    rw (local_memory_lem p m n v s (given_permitted n v g))
    record {
      presence = h.presence;
      value = h.value;
      subscription = q.subscription;
      pendency = rw q.pendency (pending_spelt (pending m k) (subscribed m k) (differs m k v) (body m k ≢ v) (differs_spelt m k v));
      flight = q.flight;
      others = unfold local_memory in λ j hj ne. (cell-put_other m k _ v hm hk hv j hj ne, room-put_other m k _ v hm hk hv j hj ne);
      same_timer = unfold local_memory in timer-put m k _ v hm hk hv;
    }
