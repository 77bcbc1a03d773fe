-- What a set and a read find: lengths of values that sound memory holds, a commit's conditions, causes by the first check that fails.
use Prim.Native.Nat.{ℕ, zero, suc, ◌+◌, ◌≤◌, ◌<◌}
use native.Mathlib.Omega.{arith}
use mathlib.Core.Path.{◌≡◌, refl, sym, ap, ◌∙◌}
use mathlib.Core.Logic.{◌≢◌}
use mathlib.Core.Bool.{Bool, true, false, ◌&&◌, cond, and-true, and-false, true≢false, false≢true}
use mathlib.Core.List.{List, [], ◌∷◌}
use lib.ListN.{length}
use lib.Dec.{eqb, ltb}
use borrow.Author.Tests.{ltb-true, eqb-true, ne_eqb, le-leb, lt-leb}
use Rattle.meaning.specs.Octets.{octet, part, same, every, implies}
use Rattle.meaning.specs.Checks.{first_failed, when_passed}
use Rattle.meaning.specs.Table.{rows, row_at, place, by_controller, entry_count, memory_length, admin_base_time, admin_control_list_length, admin_control_list, admin_cycle_time, commit}
use Rattle.meaning.specs.Block.{permits, keeps, joined_block, form_and_fit, sums}
use Rattle.meaning.specs.Memory.{present, body, pending, in_flight, store, set_marks, four_present, sound}
use Rattle.meaning.specs.Profile.{release18, release16, is_release16, lists, listed, spared, in_memory, sendable, cause_absent}
use Rattle.meaning.specs.Step.{block, commits, permitted, set_checks, stored, set_memory, subscribe_memory, unsubscribe_memory, set_answer, read_checks, read_answer, value, read_error, update, update_error, shown}
use Rattle.meaning.proofs.Tests.{and_left, and_right, not-true}
use Rattle.meaning.proofs.Lists.{part-octet, length_part}
use Rattle.meaning.proofs.Values.{permits_opened}
use Rattle.meaning.proofs.Profiles.{memory-length, absent_fails}
use Rattle.meaning.proofs.Sound.{opened, entry_of, four_at_lem}
use Rattle.std.specs.Prelude.{Option, Some, None, Result, Ok, Err, is_some, is_ok, ok_or}
use Rattle.wire.specs.declared.Cause.{Cause}
use Rattle.command.specs.Answers.{listed_place}
use Rattle.schedule.proofs.Blocks.{permitted_base, permitted-count, permitted-list, permitted-ratio}

pub long_of : (m : List ℕ) → sound m ≡ true → length m ≡ memory_length
long_of m s = (opened m s).long

-- a present value keeps its row
pub body-permitted : (m : List ℕ) (k : ℕ) → sound m ≡ true → k < entry_count → present m k ≡ true → permits (row_at k) (body m k) ≡ true
unfolding present body
body-permitted m k s h p = rw p at (entry_of m (opened m s) k h).held

-- ---- the four values of a commit

pub one_length : ((row_at admin_base_time).most ≡ 10) × ((row_at admin_control_list_length).most ≡ 4) × ((row_at admin_cycle_time).most ≡ 8)
unfolding row_at rows
one_length = (refl, refl, refl)

pub record FourPermitted (m : List ℕ) : Type 0 where
  pub base : permits (row_at admin_base_time) (body m admin_base_time) ≡ true
  pub count : permits (row_at admin_control_list_length) (body m admin_control_list_length) ≡ true
  pub list : permits (row_at admin_control_list) (body m admin_control_list) ≡ true
  pub ratio : permits (row_at admin_cycle_time) (body m admin_cycle_time) ≡ true

pub four_permitted : (m : List ℕ) → sound m ≡ true → four_present m ≡ true → FourPermitted m
four_permitted m s f =
    record {
      base = body-permitted m admin_base_time s (omega arith) (four_at_lem m 0 f);
      count = body-permitted m admin_control_list_length s (omega arith) (four_at_lem m 1 f);
      list = body-permitted m admin_control_list s (omega arith) (four_at_lem m 2 f);
      ratio = body-permitted m admin_cycle_time s (omega arith) (four_at_lem m 3 f);
    }

pub record FourLengths (m : List ℕ) : Type 0 where
  pub base : length (body m admin_base_time) ≡ 10
  pub count : length (body m admin_control_list_length) ≡ 4
  pub list : length (body m admin_control_list) ≤ 448
  pub ratio : length (body m admin_cycle_time) ≡ 8

pub four_lengths : (m : List ℕ) → FourPermitted m → FourLengths m
four_lengths m p =
    record {
      base = (permitted_base (body m admin_base_time) p.base).0;
      count = (permitted-count (body m admin_control_list_length) p.count).0;
      list = (permitted-list (body m admin_control_list) p.list).0;
      ratio = (permitted-ratio (body m admin_cycle_time) p.ratio).0;
    }

pub commit_unset : (m v : List ℕ) → four_present m ≡ false → commits m v ≡ false
unfolding commits every
commit_unset m v e = rw e

pub commit_unfit : (m v : List ℕ) → form_and_fit (block m) ≡ false → commits m v ≡ false
unfolding commits every
commit_unfit m v e = rw (e, and-false, and-false)

-- where the four values are present and fit one another, the value sent decides
pub commit-sums : (m v : List ℕ) → four_present m ≡ true → form_and_fit (block m) ≡ true → commits m v ≡ (eqb (length v) 4 && same v (sums (block m)))
unfolding commits every
commit-sums m v e f = rw (e, f, and-true)

-- four values as they were found make the block
pub block_found : (m : List ℕ) {b c l r : List ℕ} → b ≡ body m admin_base_time → c ≡ body m admin_control_list_length → l ≡ body m admin_control_list → r ≡ body m admin_cycle_time
    → joined_block b c l r ≡ block m
unfolding block
block_found m hb hc hl hr = rw (hb, hc, hl, hr)

-- ---- names that the profile lists

unwrap_or : ℕ → Option ℕ → ℕ
unwrap_or d None = d
unwrap_or d (Some k) = k

error_of : Cause → Result ℕ Cause → Cause
error_of d (Ok k) = d
error_of d (Err c) = c

pub lists-place : (p k : ℕ) → lists p k ≡ true → k < entry_count
unfolding lists
lists-place p k e = ltb-true _ _ (and_left _ _ e)

pub place_listed : (p n k : ℕ) → Some k ≡ listed_place p n → (lists p k ≡ true) × (k ≡ place n)
unfolding listed_place unwrap_or
place_listed p n k e = go (lists p (place n)) refl e
  where
    go : (b : Bool) → lists p (place n) ≡ b → Some k ≡ cond b (Some (place n)) None → (lists p k ≡ true) × (k ≡ place n)
    go true h f = let q : k ≡ place n = ap (unwrap_or 0) f in (rw q h, q)
    go false h f = absurd (true≢false (ap is_some f))

pub place_unlisted : (p n : ℕ) → None ≡ listed_place p n → lists p (place n) ≡ false
unfolding listed_place
place_unlisted p n e = go (lists p (place n)) e
  where
    go : (b : Bool) → None ≡ cond b (Some (place n)) None → b ≡ false
    go true f = absurd (false≢true (ap is_some f))
    go false f = refl

-- the cause that comes where the profile does not list it
pub not_listed : (p n : ℕ) (o : Option ℕ) (c r : Cause) → o ≡ listed_place p n → Err r ≡ ok_or o c → (lists p (place n) ≡ false) × (r ≡ c)
unfolding error_of
not_listed p n None c r e f = (place_unlisted p n e, ap (error_of c) f)
not_listed p n (Some k) c r e f = absurd (false≢true (ap is_ok f))

-- ---- a read

pub read_unlisted : (p : ℕ) (m : List ℕ) (n : ℕ) → lists p (place n) ≡ false → read_answer p m n ≡ read_error n 0x01
unfolding read_answer read_checks first_failed when_passed listed
read_unlisted p m n h = rw h

module _ (p : ℕ) (m : List ℕ) (n : ℕ) (h : lists p (place n) ≡ true) where
  pub read-absent : present m (place n) ≡ false → read_answer p m n ≡ read_error n (cause_absent p)
  unfolding read_answer read_checks first_failed listed
  read-absent e = rw (h, e) (absent_fails p (value n (shown p m (place n))) (read_error n))

  pub read-value : present m (place n) ≡ true → read_answer p m n ≡ value n (shown p m (place n))
  unfolding read_answer read_checks first_failed when_passed listed
  read-value e = rw (h, e)

-- ---- a value put at a place

pub permitted-commit : (p : ℕ) (m v : List ℕ) (k : ℕ) → k ≡ commit → (permitted p m k v ≡ commits m v) × (store m k (stored p m k v) ≡ store m commit (block m))
unfolding permitted stored
permitted-commit p m v k e = rw e (refl, refl)

-- what is put is the value as memory has it
pub permitted-row : (p : ℕ) (m v w : List ℕ) (k : ℕ) → k ≢ commit → w ≡ in_memory p k v → (permitted p m k v ≡ permits (row_at k) w) × (stored p m k v ≡ w)
unfolding permitted stored
permitted-row p m v w k e q = rw (ne_eqb k commit e, ← q) (refl, refl)

-- which is the value itself where nothing is spared
pub not_spared : (p k : ℕ) (v : List ℕ) → spared p k ≡ 0 → v ≡ in_memory p k v
unfolding in_memory
not_spared p k v e = rw e

-- else it is that of AdminControlListLength: two octets 0 come ahead, and its room has four octets
spared_two : (p k : ℕ) → spared p k ≢ 0 → (spared p k ≡ 2) × (k ≡ admin_control_list_length)
unfolding spared
spared_two p k ne = go (is_release16 p && eqb k admin_control_list_length) refl
  where
    go : (b : Bool) → (is_release16 p && eqb k admin_control_list_length) ≡ b → (spared p k ≡ 2) × (k ≡ admin_control_list_length)
    go true e = (rw e, eqb-true k admin_control_list_length (and_right (is_release16 p) _ e))
    go false e = absurd (ne (rw e))

two_spared : (p k : ℕ) (v : List ℕ) → spared p k ≢ 0 → length v ≡ 2 → 0 ∷ 0 ∷ octet v 0 ∷ octet v 1 ∷ [] ≡ in_memory p k v
unfolding in_memory
two_spared p k v ne h = rw (spared_two p k ne).0 (ap (λ (l : List ℕ). 0 ∷ 0 ∷ l) (go v h))
  where
    go : (v : List ℕ) → length v ≡ 2 → octet v 0 ∷ octet v 1 ∷ [] ≡ v
    go [] h = absurd (omega (arith, h))
    go (x ∷ []) h = absurd (omega (arith, h))
    go (x ∷ y ∷ []) h = refl
    go (x ∷ y ∷ z ∷ v) h = absurd (omega (arith, h))

-- two octets of a list are so lengthened
pub pair_spared : (p k : ℕ) (s : List ℕ) (i n : ℕ) → spared p k ≢ 0 → n ≡ 2 → i + n ≤ length s → part (0 ∷ 0 ∷ octet s i ∷ octet s (i + 1) ∷ []) 0 4 ≡ in_memory p k (part s i n)
unfolding part
pair_spared p k s i n ne two h = rw two (all 0 0 (octet s i) (octet s (i + 1)) ∙ pair)
  where
    all : (a b c d : ℕ) → part (a ∷ b ∷ c ∷ d ∷ []) 0 4 ≡ a ∷ b ∷ c ∷ d ∷ []
    all a b c d = refl

    first : octet (part s i 2) 0 ≡ octet s i
    first = part-octet s i 2 0 (omega arith) ∙ ap (octet s) (omega arith)

    pair : 0 ∷ 0 ∷ octet s i ∷ octet s (i + 1) ∷ [] ≡ in_memory p k (part s i 2)
    pair = rw (part-octet s i 2 1 (omega arith), first) at (two_spared p k (part s i 2) ne (length_part s i 2 (omega (arith, h, two))))

pub spared_unfit : (p : ℕ) (m v : List ℕ) (k : ℕ) → k ≢ commit → spared p k ≢ 0 → length v ≢ 2 → permitted p m k v ≡ false
unfolding row_at rows
spared_unfit p m v k e ne h =
    (permitted-row p m v (in_memory p k v) k e refl).0
    ∙ not-true _ (λ t. let o = permits_opened (row_at k) (in_memory p k v) t in h (omega (arith, four o, memory-length p k v, (spared_two p k ne).0)))
  where
    four : ((row_at k).least ≤ length (in_memory p k v)) × (length (in_memory p k v) ≤ (row_at k).most) × (keeps (row_at k).rule (in_memory p k v) ≡ true) → length (in_memory p k v) ≡ 4
    four o =
        let q = (spared_two p k ne).1 in
        omega (arith, o.0, o.1, ap (λ (j : ℕ). (row_at j).least) q, ap (λ (j : ℕ). (row_at j).most) q)

-- ---- a set: its cause, and the memory that it leaves

abbrev Set : (p : ℕ) → List ℕ → ℕ → List ℕ → ℕ → List ℕ → Type 0
Set p m n v cause after = (cause ≡ first_failed (set_checks p m n v)) × (after ≡ set_memory p m n v)

pub set_unlisted : (p : ℕ) (m : List ℕ) (n : ℕ) (v : List ℕ) → lists p (place n) ≡ false → Set p m n v 0x01 m
unfolding set_memory set_checks first_failed when_passed listed
set_unlisted p m n v h = rw h (refl, refl)

module _ (p : ℕ) (m : List ℕ) (n k : ℕ) (v : List ℕ) (e : k ≡ place n) (h : lists p k ≡ true) where
  pub set_foreign : by_controller (row_at k).owner ≡ false → Set p m n v 0x6F m
  unfolding set_memory set_checks first_failed when_passed listed
  set_foreign o = rw (← e, h, o) (refl, refl)

  set_too_long : by_controller (row_at k).owner ≡ true → sendable p v ≡ false → Set p m n v 0x6F m
  unfolding set_memory set_checks first_failed when_passed listed
  set_too_long o l = rw (← e, h, o, l) (refl, refl)

  -- what a value put at the place leaves
  module _ (o : by_controller (row_at k).owner ≡ true) (l : sendable p v ≡ true) {t : Bool} {after : List ℕ} (y : t ≡ permitted p m k v) (q : after ≡ cond (permitted p m k v) (store m k (stored p m k v)) m) where
    pub set-refused : t ≡ false → Set p m n v 0x02 after
    unfolding set_memory set_checks first_failed when_passed listed
    set-refused f = rw (q, ← e, h, o, l, sym y ∙ f) (refl, refl)

    pub set-done : t ≡ true → Set p m n v 0 after
    unfolding set_memory set_checks first_failed when_passed listed
    set-done f = rw (q, ← e, h, o, l, sym y ∙ f) (refl, refl)

-- ---- a set by its profile

-- a record of Release 16 has at most 255 octets of a value
pub long_unsendable : (v : List ℕ) → 255 < length v → sendable release16 v ≡ false
unfolding sendable implies is_release16
long_unsendable v h = lt-leb (length v) 255 h

pub short-sendable : (v : List ℕ) → length v ≤ 255 → sendable release16 v ≡ true
unfolding sendable implies is_release16
short-sendable v h = le-leb (length v) 255 h

-- too long a value has the cause of one that the port sets, whoever sets it
pub set_over : (p : ℕ) (m : List ℕ) (n k : ℕ) (v : List ℕ) → k ≡ place n → lists p k ≡ true → sendable p v ≡ false → Set p m n v 0x6F m
set_over p m n k v e h l = go (by_controller (row_at k).owner) refl
  where
    go : (b : Bool) → by_controller (row_at k).owner ≡ b → Set p m n v 0x6F m
    go true o = set_too_long p m n k v e h o l
    go false o = set_foreign p m n k v e h o

-- where octets are spared, two are wanted
pub set_unfit : (p : ℕ) (m : List ℕ) (n k : ℕ) (v : List ℕ) → k ≡ place n → lists p k ≡ true → sendable p v ≡ true → spared p k ≢ 0 → length v ≢ 2 → Set p m n v 0x02 m
unfolding row_at rows by_controller
set_unfit p m n k v e h l ne u =
    let q = (spared_two p k ne).1 in
    let f = spared_unfit p m v k (λ c. absurd (omega (arith, q, c))) ne u in
    set-refused p m n k v e h (rw q) l (sym f) (rw f) refl

-- Release 18 has a value on the wire as memory has it, and sends it back whatever its length
pub unspared : (k : ℕ) (v : List ℕ) → v ≡ in_memory release18 k v
unfolding in_memory spared is_release16
unspared k v = refl

pub any_sendable : (v : List ℕ) → sendable release18 v ≡ true
unfolding sendable implies is_release16
any_sendable v = refl

commit_unspared : (v : List ℕ) → in_memory release16 commit v ≡ v
unfolding in_memory spared is_release16
commit_unspared v = refl

-- Release 16 sets the value as memory has it, where Release 18 sets that
lists-more : (k : ℕ) → lists release16 k ≡ true → lists release18 k ≡ true
unfolding lists is_release16
lists-more k h = rw (and_left (ltb k entry_count) _ h)

stored_alike : (m : List ℕ) (k : ℕ) (v w : List ℕ) → w ≡ in_memory release16 k v → (permitted release18 m k w ≡ permitted release16 m k v) × (stored release18 m k w ≡ stored release16 m k v)
unfolding permitted stored
stored_alike m k v w q = go (eqb k commit) refl
  where
    go : (b : Bool) → eqb k commit ≡ b → (permitted release18 m k w ≡ permitted release16 m k v) × (stored release18 m k w ≡ stored release16 m k v)
    go true e = rw (e, q, eqb-true k commit e, commit_unspared v) (refl, refl)
    go false e = rw (e, ← unspared k w, ← q) (refl, refl)

pub as_memory : (m : List ℕ) (n k : ℕ) (v w : List ℕ) {cause : ℕ} {after : List ℕ} → k ≡ place n → lists release16 k ≡ true → sendable release16 v ≡ true → w ≡ in_memory release16 k v
    → Set release18 m n w cause after → Set release16 m n v cause after
unfolding set_memory set_checks listed sendable implies is_release16
as_memory m n k v w e h l q s =
    let t = stored_alike m k v w q in
    rw (← e, h, l, ← t.0, ← t.1) (rw (← e, lists-more k h) at s)

-- any other profile sets as Release 18 does
pub as_eighteen : (p : ℕ) (m : List ℕ) (n : ℕ) (v : List ℕ) {cause : ℕ} {after : List ℕ} → p ≢ release16 → Set release18 m n v cause after → Set p m n v cause after
unfolding set_memory set_checks listed lists sendable implies permitted stored in_memory spared is_release16
as_eighteen p m n v ne s = rw (ne_eqb p release16 ne) s

-- ---- marks

module _ (p : ℕ) (m : List ℕ) (n k : ℕ) (e : k ≡ place n) where
  pub subscribe-listed : {after : List ℕ} → lists p k ≡ true → after ≡ set_marks m k true (pending m k) (in_flight m k) → after ≡ subscribe_memory p m n
  unfolding subscribe_memory listed
  subscribe-listed h r = r ∙ rw (← e, h)

  pub subscribe_unlisted : lists p k ≡ false → m ≡ subscribe_memory p m n
  unfolding subscribe_memory listed
  subscribe_unlisted h = rw (← e, h)

  pub unsubscribe-listed : {after : List ℕ} → lists p k ≡ true → after ≡ set_marks m k false false false → after ≡ unsubscribe_memory p m n
  unfolding unsubscribe_memory listed
  unsubscribe-listed h r = r ∙ rw (← e, h)

  pub unsubscribe_unlisted : lists p k ≡ false → m ≡ unsubscribe_memory p m n
  unfolding unsubscribe_memory listed
  unsubscribe_unlisted h = rw (← e, h)

-- ---- the answer to a set, by its cause

pub answer-update : (p : ℕ) (m : List ℕ) (n : ℕ) (v : List ℕ) → first_failed (set_checks p m n v) ≡ 0 → set_answer p m n v ≡ update n v
unfolding set_answer when_passed
answer-update p m n v e = rw e

pub answer-cause : (p : ℕ) (m : List ℕ) (n cause : ℕ) (v : List ℕ) → cause ≡ first_failed (set_checks p m n v) → cause ≢ 0 → set_answer p m n v ≡ update_error n cause
unfolding set_answer when_passed
answer-cause p m n zero v e h = absurd (h refl)
answer-cause p m n (suc cause) v e h = rw (← e)
