-- What is spelt is read: octets behind a length, records of each kind at the front of octets, several of them, and all up to the end.
use Prim.Native.Nat.{ℕ, zero, suc, ◌+◌, ◌/◌, ◌%◌, ◌≤◌, ◌<◌}
use native.Mathlib.Omega.{arith}
use mathlib.Core.Path.{◌≡◌, refl, sym, ap, ◌∙◌}
use mathlib.Core.Option.{Option, none, some}
use mathlib.Core.List.{List, [], ◌∷◌, ◌++◌, append_assoc, append-nil}
use lib.ListN.{length, take, drop, length-append}
use lib.Seq.{take_at, drop_at, drop-drop}
use borrow.Author.Tests.{le-leb, lt-leb}
use Rattle.meaning.specs.Octets.{octet, be16, part, flat}
use Rattle.meaning.specs.Block.{as_number, as_number_from}
use Rattle.meaning.specs.Reply.{Held, Failed, held_octets, short_octets, failed_octets}
use Rattle.meaning.specs.Capture.{then_read, sized, front_name, front_held, front_failed, several, behind_count, until_end_in, until_end, exactly, longs_in}
use Rattle.meaning.proofs.Lists.{Each, at16-be16}
use Rattle.meaning.proofs.Decode.{GoodHeld}

-- ---- octets behind a length of none, one or two octets

-- a length that is right
pub sized_there : (w n : ℕ) (s : List ℕ) → as_number (take w s) ≡ n → w + n ≤ length s → sized w s ≡ some (part s w n, drop (w + n) s)
unfolding sized
sized_there w n s e h = rw (e, le-leb (w + n) (length s) h)

-- and one that is not
pub sized_cut : (w n : ℕ) (s : List ℕ) → as_number (take w s) ≡ n → length s < w + n → sized w s ≡ none
unfolding sized
sized_cut w n s e h = rw (e, lt-leb (w + n) (length s) h)

pub sized-alone : (t : List ℕ) → sized 0 t ≡ some ([], t)
unfolding part as_number as_number_from
sized-alone t = sized_there 0 0 t refl (omega arith)

module _ (c t : List ℕ) where
  pub sized_one : sized 1 (length c ∷ c ++ t) ≡ some (c, t)
  unfolding part as_number as_number_from
  sized_one =
      let e : length c ∷ c ++ t ≡ length c ∷ (c ++ t) = refl in
      let d : drop (1 + length c) (length c ∷ (c ++ t)) ≡ t = sym (drop-drop (length c) 1 (length c ∷ (c ++ t))) ∙ drop_at c t (length c) refl in
      sized_there 1 (length c) (length c ∷ (c ++ t)) (omega arith) (omega (arith, length-append c t))
      ∙ rw (d, take_at c t (length c) refl)

  pub sized_two : length c < 65536 → sized 2 (be16 (length c) ++ (c ++ t)) ≡ some (c, t)
  unfolding part as_number as_number_from be16
  sized_two h =
      let s = length c / 256 % 256 ∷ length c % 256 ∷ (c ++ t) in
      let d : drop (2 + length c) s ≡ t = sym (drop-drop (length c) 2 s) ∙ drop_at c t (length c) refl in
      sized_there 2 (length c) s (omega arith) (omega (arith, length-append c t))
      ∙ rw (d, take_at c t (length c) refl)

-- ---- a record at the front

-- a record's octets and then t are read as the record and t
abbrev pub Front : {A : Type 0} → (A → List ℕ) → (List ℕ → Option (A × List ℕ)) → (A → Type 0) → Type 0
Front {A} f one Good = (a : A) (t : List ℕ) → Good a → one (f a ++ t) ≡ some (a, t)

abbrev pub GoodName : ℕ → Type 0
GoodName n = n < 65536

-- an update whose length one octet can carry is spelt with one
abbrev pub GoodShort : Held → Type 0
GoodShort h = (h.name < 65536) × (length h.value < 256)

-- an error whose cause reads as itself
abbrev pub GoodCause : (ℕ → ℕ) → Failed → Type 0
GoodCause cause f = (f.name < 65536) × (cause f.cause ≡ f.cause)

pub name_front : Front be16 front_name GoodName
unfolding front_name
name_front n t g =
    let l : 2 ≤ length (be16 n ++ t) = unfold be16 in omega arith in
    let d : drop 2 (be16 n ++ t) ≡ t = unfold be16 in refl in
    rw (le-leb 2 (length (be16 n ++ t)) l, at16-be16 n t g, d)

pub held_front : Front held_octets (front_held 2) GoodHeld
unfolding front_held held_octets then_read
held_front h t g =
    let v = h.value in
    let s : be16 h.name ++ (be16 (length v) ++ v) ++ t ≡ be16 h.name ++ (be16 (length v) ++ (v ++ t)) = simp append_assoc in
    let d : drop 2 (be16 h.name ++ (be16 (length v) ++ (v ++ t))) ≡ be16 (length v) ++ (v ++ t) = unfold be16 in refl in
    rw (s, at16-be16 h.name (be16 (length v) ++ (v ++ t)) g.0, d, sized_two v t g.1)

pub short_front : Front short_octets (front_held 1) GoodShort
unfolding front_held short_octets then_read
short_front h t g =
    let v = h.value in
    let s : be16 h.name ++ (length v ∷ v) ++ t ≡ be16 h.name ++ (length v ∷ v ++ t) = append_assoc (be16 h.name) (length v ∷ v) t in
    let d : drop 2 (be16 h.name ++ (length v ∷ v ++ t)) ≡ length v ∷ v ++ t = unfold be16 in refl in
    rw (s, at16-be16 h.name (length v ∷ v ++ t) g.0, d, sized_one v t)

-- an error, with its cause as it reads
pub failed_reads : (cause : ℕ → ℕ) (f : Failed) (t : List ℕ) → f.name < 65536 → front_failed cause (failed_octets f ++ t) ≡ some (record { name = f.name; cause = cause f.cause }, t)
unfolding front_failed failed_octets
failed_reads cause f t g =
    let s : be16 f.name ++ (f.cause ∷ []) ++ t ≡ be16 f.name ++ (f.cause ∷ t) = append_assoc (be16 f.name) (f.cause ∷ []) t in
    let l : 3 ≤ length (be16 f.name ++ (f.cause ∷ t)) = unfold be16 in omega arith in
    let d : drop 3 (be16 f.name ++ (f.cause ∷ t)) ≡ t = unfold be16 in refl in
    let o : octet (be16 f.name ++ (f.cause ∷ t)) 2 ≡ f.cause = unfold be16 in refl in
    rw (s, le-leb 3 (length (be16 f.name ++ (f.cause ∷ t))) l, at16-be16 f.name (f.cause ∷ t) g, d, o)

pub failed_front : (cause : ℕ → ℕ) → Front failed_octets (front_failed cause) (GoodCause cause)
failed_front cause f t g = failed_reads cause f t g.0 ∙ rw g.1

-- ---- several records

module _ {A : Type 0} (f : A → List ℕ) (one : List ℕ → Option (A × List ℕ)) (Good : A → Type 0) (front : Front f one Good) where
  pub several_front : (l : List A) (t : List ℕ) → Each Good l → several one (length l) (flat f l ++ t) ≡ some (l, t)
  unfolding several flat then_read
  several_front [] t g = refl
  several_front (a ∷ l) t g = rw (append_assoc (f a) (flat f l) t, front a (flat f l ++ t) g.0, several_front l t g.1)

  pub count_front : (l : List A) (t : List ℕ) → Each Good l → behind_count one (length l ∷ flat f l ++ t) ≡ some (l, t)
  unfolding behind_count
  count_front l t g = several_front l t g

  pub count_last : (l : List A) → Each Good l → behind_count one (length l ∷ flat f l) ≡ some (l, [])
  count_last l g = ap (λ (t : List ℕ). behind_count one (length l ∷ t)) (sym (append-nil (flat f l))) ∙ count_front l [] g

  pub end_step : (s : List ℕ) (n : ℕ) → 1 ≤ length s → until_end_in one (suc n) s ≡ then_read (one s) (λ a. then_read (until_end_in one n a.1) (λ as'. some (a.0 ∷ as')))
  unfolding until_end_in
  end_step [] n h = absurd (omega arith)
  end_step (x ∷ s) n h = refl

  end_in : ((a : A) → 1 ≤ length (f a)) → (l : List A) (n : ℕ) → Each Good l → length (flat f l) ≤ n → until_end_in one n (flat f l) ≡ some l
  unfolding until_end_in flat then_read
  end_in some-octets [] zero g h = refl
  end_in some-octets [] (suc n) g h = refl
  end_in some-octets (a ∷ l) zero g h = absurd (omega (arith, some-octets a, length-append (f a) (flat f l)))
  end_in some-octets (a ∷ l) (suc n) g h =
      end_step (f a ++ flat f l) n (omega (arith, some-octets a, length-append (f a) (flat f l)))
      ∙ rw (front a (flat f l) g.0, end_in some-octets l n g.1 (omega (arith, some-octets a, length-append (f a) (flat f l))))

  pub end_front : ((a : A) → 1 ≤ length (f a)) → (l : List A) → Each Good l → until_end one (flat f l) ≡ some l
  unfolding until_end
  end_front some-octets l g = end_in some-octets l (length (flat f l)) g (omega arith)

-- ---- long updates

pub held_some : (h : Held) → 1 ≤ length (held_octets h)
unfolding held_octets be16
held_some h = omega arith

-- a length and exactly so many octets
pub longs_spelt : (v : List ℕ) → length v < 65536 → longs_in (be16 (length v) ++ v) ≡ until_end (front_held 2) v
unfolding longs_in then_read exactly be16
longs_spelt v h =
    let e : sized 2 (length v / 256 % 256 ∷ length v % 256 ∷ v) ≡ some (v, []) =
    ap (λ (t : List ℕ). sized 2 (be16 (length v) ++ t)) (sym (append-nil v)) ∙ sized_two v [] h in
    rw e
