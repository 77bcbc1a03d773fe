-- Pieces taken one after another: one that can be taken is one turn, and at one that cannot there is nothing left to do.
use Prim.Native.Nat.{ℕ, zero, suc, ◌+◌, ◌-◌, ◌≤◌, ◌<◌}
use native.Mathlib.Omega.{arith}
use mathlib.Core.Path.{◌≡◌, refl, sym, ap, ap₂, subst, ◌∙◌}
use mathlib.Core.Bool.{Bool, true, false, cond, false≢true, true≢false}
use mathlib.Core.List.{List, [], ◌++◌, append_assoc, append-nil}
use lib.ListN.{length, take, drop, get_or, length-append}
use lib.Dec.{leb}
use lib.Seq.{take_at, length-take-le}
use borrow.Author.Tests.{lt-leb, leb-true, leb-false}
use Rattle.meaning.specs.Octets.{octet, part, splice}
use Rattle.page.specs.declared.Page.{Page}
use Rattle.page.specs.Printing.{HasRoom, Prints}
use Rattle.stdio.specs.Pieces.{needed, next_at, cut_line}
use Rattle.stdio.specs.Taking.{Piece, Program, Between, TakesOne, Batches, piece_at, whole_at, goes_on, line_at, next, taken_in, lines_in, taken, lines, Faulty, Wanting}
use Rattle.std.specs.declared.option.Option.{Option}
use Rattle.std.specs.Prelude.{Some, None, is_some}
use Rattle.stdio.proofs.Held.{needed-least, needed-most}

-- ---- one piece more, or none

past : (head : ℕ) (held : List ℕ) (from : ℕ) → 1 ≤ head → length held ≤ from → whole_at head held from ≡ false
unfolding whole_at
past head held from h k = lt-leb (from + needed held from head) (length held) (omega (arith, needed-least held from head))

module _ {S : Type 0} (t : Program S) (held : List ℕ) where
  -- where no piece is taken
  taken_stop : (n : ℕ) (p : Between S) → goes_on t held p.from ≡ false → taken_in t n held p ≡ p
  unfolding taken_in
  taken_stop zero p w = refl
  taken_stop (suc n) p w = rw w

  pub taken_none : (p : Between S) → goes_on t held p.from ≡ false → taken t held p ≡ p
  unfolding taken
  taken_none p w = taken_stop (length held) p w

  pub wanting_none : (p : Between S) → Wanting t held p.from → taken t held p ≡ p
  unfolding goes_on
  wanting_none p w = taken_none p (rw w.0)

  faulty_stops : (from : ℕ) → Faulty t held from → goes_on t held from ≡ false
  unfolding goes_on
  faulty_stops from w = rw (w.0, w.1)

  -- a faulty piece is where the pieces end
  pub faulty_last : (p q : Between S) → taken t held q ≡ taken t held p → Faulty t held q.from → Faulty t held (taken t held p).from
  faulty_last p q s w = subst (λ (x : Between S). Faulty t held x.from) (sym (taken_none q (faulty_stops q.from w)) ∙ s) w

module _ {S : Type 0} (t : Program S) (h : 1 ≤ t.head) (held : List ℕ) where
  stuck : (from : ℕ) → length held ≤ from → goes_on t held from ≡ false
  unfolding goes_on
  stuck from k = rw (past t.head held from h k)

  -- more turns than there are octets change nothing
  taken_bound : (n : ℕ) (p : Between S) → length held ≤ p.from + n → taken_in t n held p ≡ taken_in t (suc n) held p
  unfolding taken_in next
  taken_bound zero p k = rw (stuck p.from (omega arith))
  taken_bound (suc n) p k =
      ap (λ (x : Between S). cond (goes_on t held p.from) x p) (taken_bound n (next t held p) (omega (arith, needed-least held p.from t.head)))

  lines_bound : (n : ℕ) (p : Between S) → length held ≤ p.from + n → lines_in t n held p ≡ lines_in t (suc n) held p
  unfolding lines_in next
  lines_bound zero p k = rw (stuck p.from (omega arith), past t.head held p.from h (omega arith))
  lines_bound (suc n) p k =
      ap (λ (x : List ℕ). cond (goes_on t held p.from) (line_at t held p ++ x) (cond (whole_at t.head held p.from) cut_line []))
      (lines_bound n (next t held p) (omega (arith, needed-least held p.from t.head)))

  taken-turn : (n : ℕ) (p : Between S) → length held ≤ p.from + n → goes_on t held p.from ≡ true → taken_in t n held (next t held p) ≡ taken_in t n held p
  unfolding taken_in next
  taken-turn zero p k w = absurd (false≢true (sym (stuck p.from (omega arith)) ∙ w))
  taken-turn (suc n) p k w = rw w (sym (taken_bound n (next t held p) (omega (arith, needed-least held p.from t.head))))

  lines-turn : (n : ℕ) (p : Between S) → length held ≤ p.from + n → goes_on t held p.from ≡ true
      → line_at t held p ++ lines_in t n held (next t held p) ≡ lines_in t n held p
  unfolding lines_in next
  lines-turn zero p k w = absurd (false≢true (sym (stuck p.from (omega arith)) ∙ w))
  lines-turn (suc n) p k w =
      rw w (ap (λ (x : List ℕ). line_at t held p ++ x) (sym (lines_bound n (next t held p) (omega (arith, needed-least held p.from t.head)))))

  cut_in : (n : ℕ) (p : Between S) → length held ≤ p.from + n → Faulty t held p.from → lines_in t n held p ≡ cut_line
  unfolding lines_in
  cut_in zero p k w = absurd (false≢true (sym (past t.head held p.from h (omega arith)) ∙ w.0))
  cut_in (suc n) p k w = rw (faulty_stops t held p.from w, w.0)

  faulty_cut : (p : Between S) → Faulty t held p.from → lines t held p ≡ cut_line
  unfolding lines
  faulty_cut p w = cut_in (length held) p (omega arith) w

-- ---- what is found of a piece

-- where it ends; 0 where more is to be read
abbrev end_of : Option ℕ → ℕ
end_of (Some end) = end
end_of None = 0

abbrev is_whole : Option ℕ → Bool
is_whole (Some end) = true
is_whole None = false

pub found_whole : (head : ℕ) (held : List ℕ) (from : ℕ) {end : ℕ} {r : Option ℕ} → r ≡ Some end → r ≡ next_at held from head
    → (end ≡ from + needed held from head) × (whole_at head held from ≡ true) × (from + head ≤ end) × (end ≤ length held)
unfolding whole_at next_at
found_whole head held from {end} e f = go (leb n (length held)) refl (sym e ∙ f)
  where
    n : ℕ
    n = from + needed held from head

    go : (b : Bool) → leb n (length held) ≡ b → Some end ≡ cond b (Some n) None → (end ≡ n) × (leb n (length held) ≡ true) × (from + head ≤ end) × (end ≤ length held)
    go true l g =
        let k : end ≡ n = ap end_of g in
        (k, l, omega (arith, k, needed-least held from head), omega (arith, k, leb-true n (length held) l))
    go false l g = absurd (true≢false (ap is_whole g))

pub found_more : {S : Type 0} (t : Program S) (held : List ℕ) (from : ℕ) {r : Option ℕ} → ((i : ℕ) → get_or held i 0 < 256) → r ≡ None → r ≡ next_at held from t.head → Wanting t held from
unfolding whole_at next_at
found_more t held from octets e f = go (leb n (length held)) refl (sym e ∙ f)
  where
    n : ℕ
    n = from + needed held from t.head

    go : (b : Bool) → leb n (length held) ≡ b → None ≡ cond b (Some n) None → (leb n (length held) ≡ false) × (length held < from + t.head + 65535)
    go true l g = absurd (true≢false (sym (ap is_whole g)))
    go false l g = (l, omega (arith, leb-false n (length held) l, needed-most held from t.head octets))

-- a piece, as it is cut from what is held
pub cut_out : (head : ℕ) (held : List ℕ) (from : ℕ) {end : ℕ} → end ≡ from + needed held from head
    → record { first = octet held from; body = take (end - (from + head)) (drop (from + head) held) } ≡ piece_at head held from
unfolding piece_at part
cut_out head held from {end} e =
    let k : end - (from + head) ≡ needed held from head - head = omega (arith, e, needed-least held from head) in
    ap (λ (n : ℕ). record { first = octet held from; body = take n (drop (from + head) held) }) k

-- ---- a batch

-- what is left from q on, behind the lines on the page, is all that there was from p on
abbrev pub Joins : {S : Type 0} → Program S → List ℕ → Between S → Between S → Page → Type 0
Joins t held p q page = (taken t held q ≡ taken t held p) × (take page.at page.room.now ++ lines t held q ≡ lines t held p)

-- what is printed stands behind what was there
pub printed_behind : {page page' : Page} {w : List ℕ} → page.at ≤ length page.room.now → Prints page w page' → take page'.at page'.room.now ≡ take page.at page.room.now ++ w
unfolding splice
printed_behind {page} {page'} {w} h e =
    let f = take page.at page.room.now ++ w in
    let d = drop (page.at + length w) page.room.now in
    let s : page'.room.now ≡ f ++ d = e.octets ∙ sym (append_assoc (take page.at page.room.now) w d) in
    let n : length f ≡ page'.at = length-append (take page.at page.room.now) w ∙ omega (arith, e.place, length-take-le page.at page.room.now h) in
    rw s (take_at f d page'.at n)

module _ {S : Type 0} (t : Program S) (h : 1 ≤ t.head) (held : List ℕ) (page : Page) (p q : Between S) {page' : Page} (j : Joins t held p q page) (k : page.at ≤ length page.room.now) where
  -- a piece taken
  pub turn : {q' : Between S} → goes_on t held q.from ≡ true → q' ≡ next t held q → Prints page (line_at t held q) page' → Joins t held p q' page'
  unfolding taken lines
  turn w e l = (
    ap (taken t held) e ∙ taken-turn t h held (length held) q (omega arith) w ∙ j.0,
    ap₂ ◌++◌ (printed_behind k l) (ap (lines t held) e)
        ∙ append_assoc (take page.at page.room.now) (line_at t held q) (lines t held (next t held q))
        ∙ ap (λ (x : List ℕ). take page.at page.room.now ++ x) (lines-turn t h held (length held) q (omega arith) w)
        ∙ j.1,
  )

  -- a faulty piece
  pub cut_off : Faulty t held q.from → Prints page cut_line page' → take page'.at page'.room.now ++ [] ≡ lines t held p
  cut_off w l =
      append-nil (take page'.at page'.room.now) ∙ printed_behind k l ∙ ap (λ (x : List ℕ). take page.at page.room.now ++ x) (sym (faulty_cut t h held q w)) ∙ j.1

-- ---- a piece that the code takes, cut from what is held

module _ {S : Type 0} (t : Program S) (s : S) (piece : Piece) (longest : ℕ) (page page' : Page) where
  is_taken : (r : Option (Unit {0})) (s' : S) → TakesOne t s piece longest page page' r s' → is_some r ≡ true
      → (t.right piece ≡ true) × (s' ≡ t.after s piece) × Prints page (t.line s piece) page' × (page'.at ≤ page.at + longest)
  is_taken (Some done) s' d e = d
  is_taken None s' d e = absurd (false≢true e)

  is_faulty : (r : Option (Unit {0})) (s' : S) → TakesOne t s piece longest page page' r s' → is_some r ≡ false → (t.right piece ≡ false) × (s' ≡ s) × (page' ≡ page)
  is_faulty (Some done) s' d e = absurd (true≢false e)
  is_faulty None s' d e = d

module _ {S : Type 0} (t : Program S) (h : 1 ≤ t.head) (held : List ℕ) (page : Page) (p : Between S) (s : S) (from longest : ℕ) (r : Option (Unit {0})) (s' : S) (page' : Page) {end : ℕ}
    (j : Joins t held p (record { state = s; from = from }) page) (k : page.at ≤ length page.room.now) (w : whole_at t.head held from ≡ true) (e : end ≡ from + needed held from t.head)
    (d : TakesOne t s (record { first = octet held from; body = take (end - (from + t.head)) (drop (from + t.head) held) }) longest page page' r s') where
  of_piece : TakesOne t s (piece_at t.head held from) longest page page' r s'
  of_piece = subst (λ (x : Piece). TakesOne t s x longest page page' r s') (cut_out t.head held from e) d

  -- it is one turn
  pub piece-turn : is_some r ≡ true → (page'.at ≤ page.at + longest) × (length page'.room.now ≡ length page.room.now) × Joins t held p (record { state = s'; from = end }) page'
  unfolding goes_on line_at next
  piece-turn f =
      let b = is_taken t s (piece_at t.head held from) longest page page' r s' of_piece f in
      (b.3, b.2.long, turn t h held page p (record { state = s; from = from }) j k (rw (w, b.0)) (rw (b.1, e)) b.2)

  -- or it is faulty, and `cut` is printed behind the lines
  pub piece-faulty : {page'' : Page} → is_some r ≡ false → HasRoom page 4 → Prints page' cut_line page''
      → Faulty t held from × (taken t held (record { state = s'; from = from }) ≡ taken t held p) × (take page''.at page''.room.now ++ [] ≡ lines t held p)
      × (page''.at ≤ length page''.room.now)
  unfolding cut_line
  piece-faulty f m c =
      let b = is_faulty t s (piece_at t.head held from) longest page page' r s' of_piece f in
      let g : Joins t held p (record { state = s'; from = from }) page' = rw (b.1, b.2) j in
      let l : HasRoom page' 4 = rw b.2 m in (
        (w, b.0),
        g.0,
        cut_off t h held page' p (record { state = s'; from = from }) g (omega (arith, l)) (w, b.0) c,
        omega (arith, l, c.place, c.long),
      )

-- the lines of a batch end within the room
pub batch-short : {S : Type 0} (t : Program S) (held : List ℕ) (p : Between S) (s : S) (next : Option ℕ) (page : Page) → Batches t held p s next page → page.at ≤ length page.room.now
batch-short t held p s (Some from) page b = b.short
batch-short t held p s None page b = b.1.short
