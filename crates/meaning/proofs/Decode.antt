-- A reader of replies, and law 6: it is a left inverse of the encoder, so a reply's octets determine its records.
use Prim.Native.Nat.{ℕ, zero, suc, ◌≤◌, ◌<◌}
use native.Mathlib.Omega.{arith}
use mathlib.Core.Path.{◌≡◌, refl, sym, ap, ◌∙◌}
use mathlib.Core.Bool.{Bool, true, false, ◌||◌, cond, false≢true}
use mathlib.Core.List.{List, [], ◌∷◌, ◌++◌, append_assoc, append-nil}
use lib.ListN.{length, take, drop, length-append}
use lib.Dec.{eqb}
use lib.Seq.{take_at, drop_at}
use Rattle.meaning.specs.Octets.{octet, at16, be16, flat, nonempty}
use Rattle.meaning.specs.Reply.{Held, Failed, Records, held_octets, short_octets, failed_octets, read_contents, long_octets, set_contents, all_names, element, any_read, any_set, complete}
use Rattle.meaning.proofs.Lists.{Each, at16-be16, at16-second}
use Rattle.meaning.proofs.Records.{set-length, complete-length}

-- a record and the octets after it
unfoldable pub read_held : List ℕ → Held × List ℕ
read_held s = (record { name = at16 s 0; value = take (at16 s 2) (drop 4 s) }, drop (at16 s 2) (drop 4 s))

unfoldable pub read_short : List ℕ → Held × List ℕ
read_short s = (record { name = at16 s 0; value = take (octet s 2) (drop 3 s) }, drop (octet s 2) (drop 3 s))

unfoldable pub read_failed : List ℕ → Failed × List ℕ
read_failed s = (record { name = at16 s 0; cause = octet s 2 }, drop 3 s)

-- n records, each read by `one`, and the octets after them
unfoldable pub many : {A : Type 0} → (List ℕ → A × List ℕ) → ℕ → List ℕ → List A × List ℕ
many one zero s = ([], s)
many one (suc n) s = ((one s).0 ∷ (many one n (one s).1).0, (many one n (one s).1).1)

-- a count (1) and that many records
unfoldable pub counted : {A : Type 0} → (List ℕ → A × List ℕ) → List ℕ → List A × List ℕ
counted one s = many one (octet s 0) (drop 1 s)

-- records to the end, at most n
unfoldable pub to_end : {A : Type 0} → (List ℕ → A × List ℕ) → ℕ → List ℕ → List A
to_end one zero s = []
to_end one (suc n) [] = []
to_end one (suc n) (x ∷ s) = (one (x ∷ s)).0 ∷ to_end one n (one (x ∷ s)).1

-- the element of this identifier, if it stands at the front: whether it does, its contents, and the octets after it
unfoldable pub opened : ℕ → List ℕ → Bool × List ℕ × List ℕ
opened id s =
    cond (eqb (octet s 0) id) (true, take (at16 s 1) (drop 3 s), drop (at16 s 1) (drop 3 s)) (false, [], s)

-- the records of the contents c of element 71 and d of element 72
abbrev pub records_in : Bool → List ℕ → List ℕ → Records
records_in b c d =
    record {
      capabilities = b;
      values = (counted read_held c).0;
      read_errors = (counted read_failed (counted read_held c).1).0;
      updates = (counted read_short d).0;
      update_errors = (counted read_failed (counted read_short d).1).0;
      long_updates = to_end read_held (length d) (drop 2 (counted read_failed (counted read_short d).1).1);
    }

unfoldable pub decode : List ℕ → Records
decode s =
    let e = opened 0x70 (drop 1 s) in
    let f = opened 0x71 e.2 in
    let g = opened 0x72 f.2 in
    records_in e.0 f.1 g.1

-- ---- a record is read back

-- a record whose name and length two octets can carry
abbrev pub GoodHeld : Held → Type 0
GoodHeld h = (h.name < 65536) × (length h.value < 65536)

abbrev pub GoodFailed : Failed → Type 0
GoodFailed f = f.name < 65536

-- a record's octets and then t are read as the record and t
abbrev Back : {A : Type 0} → (A → List ℕ) → (List ℕ → A × List ℕ) → (A → Type 0) → Type 0
Back {A} f one Good = (a : A) (t : List ℕ) → Good a → one (f a ++ t) ≡ (a, t)

held_back : Back held_octets read_held GoodHeld
unfolding read_held held_octets
held_back r t g =
    let v = r.value in
    let s : be16 r.name ++ (be16 (length v) ++ v) ++ t ≡ be16 r.name ++ (be16 (length v) ++ (v ++ t)) = simp append_assoc in
    let d : drop 4 (be16 r.name ++ (be16 (length v) ++ (v ++ t))) ≡ v ++ t = unfold be16 in refl in
    rw (s, at16-be16 r.name (be16 (length v) ++ (v ++ t)) g.0, at16-second r.name (length v) (v ++ t) g.1, d, take_at v t (length v) refl, drop_at v t (length v) refl)

short_back : Back short_octets read_short GoodHeld
unfolding read_short short_octets be16
short_back r t g =
    let n : at16 (be16 r.name ++ (length r.value ∷ r.value ++ t)) 0 ≡ r.name = at16-be16 r.name (length r.value ∷ r.value ++ t) g.0 in
    rw (n, take_at r.value t (length r.value) refl, drop_at r.value t (length r.value) refl)

failed-back : Back failed_octets read_failed GoodFailed
unfolding read_failed failed_octets be16
failed-back r t g =
    let n : at16 (be16 r.name ++ (r.cause ∷ t)) 0 ≡ r.name = at16-be16 r.name (r.cause ∷ t) g in
    rw n

module _ {A : Type 0} (f : A → List ℕ) (one : List ℕ → A × List ℕ) (Good : A → Type 0) (back : Back f one Good) where
  many_back : (l : List A) (t : List ℕ) → Each Good l → many one (length l) (flat f l ++ t) ≡ (l, t)
  unfolding many flat
  many_back [] t g = refl
  many_back (a ∷ l) t g = rw (append_assoc (f a) (flat f l) t, back a (flat f l ++ t) g.0, many_back l t g.1)

  counted_back : (l : List A) (t : List ℕ) → Each Good l → counted one (length l ∷ flat f l ++ t) ≡ (l, t)
  unfolding counted
  counted_back l t g = many_back l t g

  counted_last : (l : List A) → Each Good l → counted one (length l ∷ flat f l) ≡ (l, [])
  counted_last l g = ap (λ (t : List ℕ). counted one (length l ∷ t)) (sym (append-nil (flat f l))) ∙ counted_back l [] g

  to_end_step : (s : List ℕ) (n : ℕ) → 1 ≤ length s → to_end one (suc n) s ≡ (one s).0 ∷ to_end one n (one s).1
  unfolding to_end
  to_end_step [] n h = absurd (omega arith)
  to_end_step (x ∷ s) n h = refl

  to_end_back : ((a : A) → 1 ≤ length (f a)) → (l : List A) (n : ℕ) → Each Good l → length (flat f l) ≤ n → to_end one n (flat f l) ≡ l
  unfolding to_end flat
  to_end_back pos [] zero g h = refl
  to_end_back pos [] (suc n) g h = refl
  to_end_back pos (a ∷ l) zero g h = absurd (omega (arith, pos a, length-append (f a) (flat f l)))
  to_end_back pos (a ∷ l) (suc n) g h =
      to_end_step (f a ++ flat f l) n (omega (arith, pos a, length-append (f a) (flat f l)))
      ∙ rw (back a (flat f l) g.0, to_end_back pos l n g.1 (omega (arith, pos a, length-append (f a) (flat f l))))

-- ---- contents are read back

pub record Good (r : Records) : Type 0 where
  pub values : Each GoodHeld r.values
  pub read_errors : Each GoodFailed r.read_errors
  pub updates : Each GoodHeld r.updates
  pub update_errors : Each GoodFailed r.update_errors
  pub long_updates : Each GoodHeld r.long_updates

-- the contents of an element, none where it is not needed
abbrev needed : Bool → List ℕ → List ℕ
needed b c = cond b c []

abbrev pub Reads : List Held → List Failed → List ℕ → Type 0
Reads vs es c = ((counted read_held c).0 ≡ vs) × ((counted read_failed (counted read_held c).1).0 ≡ es)

pub reads_full : (r : Records) → Good r → Reads r.values r.read_errors (read_contents r)
unfolding read_contents
reads_full r g =
    let e = counted_back held_octets read_held GoodHeld held_back r.values (length r.read_errors ∷ flat failed_octets r.read_errors) g.values in
    let h = counted_last failed_octets read_failed GoodFailed failed-back r.read_errors g.read_errors in
    (ap (λ (p : List Held × List ℕ). p.0) e, rw (e, h))

reads_none : (vs : List Held) (es : List Failed) → (nonempty vs || nonempty es) ≡ false → Reads vs es []
unfolding counted many
reads_none [] [] e = (refl, refl)
reads_none [] (x ∷ es) e = absurd (false≢true (sym e))
reads_none (x ∷ vs) es e = absurd (false≢true (sym e))

reads_back : (r : Records) → Good r → Reads r.values r.read_errors (needed (any_read r) (read_contents r))
reads_back r g = go (any_read r) refl
  where
    go : (b : Bool) → any_read r ≡ b → Reads r.values r.read_errors (needed b (read_contents r))
    go true e = reads_full r g
    go false e = reads_none r.values r.read_errors e

abbrev Sets : List Held → List Failed → List Held → List ℕ → Type 0
Sets us es ls d =
    ((counted read_short d).0 ≡ us)
    × ((counted read_failed (counted read_short d).1).0 ≡ es)
    × (to_end read_held (length d) (drop 2 (counted read_failed (counted read_short d).1).1) ≡ ls)

held_some : (h : Held) → 1 ≤ length (held_octets h)
unfolding held_octets be16
held_some h = omega arith

long-back : (l : List Held) (n : ℕ) → Each GoodHeld l → length (long_octets l) ≤ n → to_end read_held n (drop 2 (long_octets l)) ≡ l
unfolding long_octets be16 to_end
long-back [] zero g h = refl
long-back [] (suc n) g h = refl
long-back (x ∷ l) n g h = to_end_back held_octets read_held GoodHeld held_back held_some (x ∷ l) n g (omega arith)

sets_full : (r : Records) → Good r → Sets r.updates r.update_errors r.long_updates (set_contents r)
unfolding set_contents
sets_full r g =
    let us = r.updates in
    let es = r.update_errors in
    let ls = long_octets r.long_updates in
    let e = counted_back short_octets read_short GoodHeld short_back us (length es ∷ flat failed_octets es ++ ls) g.updates in
    let h = counted_back failed_octets read_failed GoodFailed failed-back es ls g.update_errors in (
      ap (λ (p : List Held × List ℕ). p.0) e,
      rw (e, h),
      rw (e, h) (long-back r.long_updates (length (set_contents r)) g.long_updates (omega (arith, set-length r))),
    )

sets_none : (us : List Held) (es : List Failed) (ls : List Held) → (nonempty us || (nonempty es || nonempty ls)) ≡ false → Sets us es ls []
unfolding counted many to_end
sets_none [] [] [] e = (refl, refl, refl)
sets_none [] [] (x ∷ ls) e = absurd (false≢true (sym e))
sets_none [] (x ∷ es) ls e = absurd (false≢true (sym e))
sets_none (x ∷ us) es ls e = absurd (false≢true (sym e))

sets_back : (r : Records) → Good r → Sets r.updates r.update_errors r.long_updates (needed (any_set r) (set_contents r))
sets_back r g = go (any_set r) refl
  where
    go : (b : Bool) → any_set r ≡ b → Sets r.updates r.update_errors r.long_updates (needed b (set_contents r))
    go true e = sets_full r g
    go false e = sets_none r.updates r.update_errors r.long_updates e

-- ---- elements are read back

opened_back : (id : ℕ) (b : Bool) (c t : List ℕ) → length (element id b c) < 65536 → eqb id id ≡ true → eqb (octet t 0) id ≡ false
    → opened id (element id b c ++ t) ≡ (b, needed b c, t)
unfolding opened element be16 at16
opened_back id true c t h i n =
    let l : at16 (id ∷ be16 (length c) ++ (c ++ t)) 1 ≡ length c = unfold at16 be16 in omega arith in
    rw (i, l, take_at c t (length c) refl, drop_at c t (length c) refl)
opened_back id false c t h i n = rw n

after70 : (b d : Bool) (c e : List ℕ) → eqb (octet (element 0x71 b c ++ element 0x72 d e) 0) 0x70 ≡ false
unfolding element
after70 true d c e = refl
after70 false true c e = refl
after70 false false c e = refl

after71 : (d : Bool) (e : List ℕ) → eqb (octet (element 0x72 d e) 0) 0x71 ≡ false
unfolding element
after71 true e = refl
after71 false e = refl

pub decode_complete : (p : ℕ) (r : Records) → Good r → length (complete p r) ≤ 4096 → decode (complete p r) ≡ r
unfolding decode complete
decode_complete p r g h =
    let e71 = element 0x71 (any_read r) (read_contents r) in
    let e72 = element 0x72 (any_set r) (set_contents r) in
    let l = complete-length p r in
    let t = opened_back 0x70 r.capabilities (all_names p) (e71 ++ e72) (omega arith) refl (after70 (any_read r) (any_set r) (read_contents r) (set_contents r)) in
    let q = opened_back 0x71 (any_read r) (read_contents r) e72 (omega arith) refl (after71 (any_set r) (set_contents r)) in
    let s = ap (opened 0x72) (sym (append-nil e72)) ∙ opened_back 0x72 (any_set r) (set_contents r) [] (omega arith) refl refl in
    let a = reads_back r g in
    let b = sets_back r g in
    rw (t, q, s)
    (λ i.
    record {
      capabilities = r.capabilities;
      values = a.0 i;
      read_errors = a.1 i;
      updates = b.0 i;
      update_errors = b.1 i;
      long_updates = b.2 i;
    })

-- no two records have one reply
pub complete_injective : (p : ℕ) (r s : Records) → Good r → Good s → length (complete p r) ≤ 4096 → complete p r ≡ complete p s → r ≡ s
complete_injective p r s g k h e = sym (decode_complete p r g h) ∙ ap decode e ∙ decode_complete p s k (rw e at h)

-- ---- the length before the long updates is that of the octets after it

pub long-told : (h : Held) (hs : List Held) → length (flat held_octets (h ∷ hs)) < 65536
    → at16 (long_octets (h ∷ hs)) 0 ≡ length (flat held_octets (h ∷ hs))
unfolding long_octets
long-told h hs l = at16-be16 (length (flat held_octets (h ∷ hs))) (flat held_octets (h ∷ hs)) l
