-- A turn of the loop over lines: a line that has ended is answered, and one that goes on is kept; what is left to print, behind what was, stays the same.
use Prim.Native.Nat.{ℕ, ◌+◌, ◌≤◌, ◌<◌}
use native.Mathlib.Omega.{arith}
use mathlib.Core.Path.{◌≡◌, refl, sym, ap, subst, ◌∙◌}
use mathlib.Core.Bool.{Bool, true, false, cond}
use mathlib.Core.List.{List, [], ◌++◌, append_assoc}
use lib.ListN.{length, take, drop, length-append, length-drop, drop_of_length-le}
use lib.Seq.{length-take-le}
use Rattle.meaning.specs.Octets.{splice}
use Rattle.page.specs.declared.Page.{Page}
use Rattle.page.specs.Printing.{Prints}
use Rattle.stdio.proofs.Taking.{printed_behind}
use Rattle.typed.specs.declared.Line.{Line}
use Rattle.typed.specs.declared.Scanned.{Scanned}
use Rattle.typed.specs.Forms.{Typed, fresh, typed_all, typed_in, Keeps, Starts}
use Rattle.typed.specs.Scanning.{before_feed, has_feed, behind_feed, Scans}
use Rattle.desk.specs.Lines.{answer_of, printed, last_of, Batched}
use Rattle.desk.proofs.Lines.{printed_feed, last_feed, no_feed}

-- ---- what was printed

-- it ends within the room
pub printed-within : {p q : Page} {w : List ℕ} → p.at ≤ length p.room.now → Prints p w q → q.at ≤ length q.room.now
unfolding splice
printed-within {p} {q} {w} h e =
    let l = ap length e.octets ∙ length-append (take p.at p.room.now) (w ++ drop (p.at + length w) p.room.now) in
    omega (arith, l, e.long, e.place, length-append w (drop (p.at + length w) p.room.now), length-take-le p.at p.room.now h)

-- ---- turns

-- lines from a place on have been answered up to another, t is the line there
pub record Turning (held : List ℕ) (t₀ : Typed) (from : ℕ) (room : List ℕ) (l : Line) (next : ℕ) (page : Page) : Type 0 where
  pub keeps : Keeps room l
  pub same : last_of (typed_in room l) (drop next held) ≡ last_of t₀ (drop from held)
  pub joined : take page.at page.room.now ++ printed (typed_in room l) (drop next held) ≡ printed t₀ (drop from held)
  pub ahead : 1 ≤ page.at → from < next
  pub ordered : from ≤ next
  pub inside : next ≤ length held
  pub short : page.at ≤ length page.room.now
  pub long : length page.room.now ≡ 131081

pub turning_start : (held room : List ℕ) (l : Line) (from : ℕ) (page : Page) → Keeps room l → from ≤ length held → page.at ≡ 0 → length page.room.now ≡ 131081
    → Turning held (typed_in room l) from room l from page
turning_start held room l from page k h z e =
    record { keeps = k; same = refl; joined = rw z; ahead = λ i. absurd (omega (arith, z, i)); ordered = omega arith; inside = h; short = omega (arith, z); long = e }

module _ (held : List ℕ) (t₀ : Typed) (from : ℕ) (room : List ℕ) (l : Line) (next : ℕ) (page : Page) (t : Turning held t₀ from room l next page)
    (r : Scanned) (room' : List ℕ) (c : Scans room l held next r room') where
  -- the line goes on, and all that is held has been taken
  module _ (e : r.ended ≡ false) (due : page.at < 32768) where
    taken : r.at ≡ length held
    taken =
        let g = no_feed (typed_in room l) (drop next held) (sym c.ended_is ∙ e) in
        let p : r.at ≡ next + length (before_feed (drop next held)) + 0 = subst (λ (b : Bool). r.at ≡ next + length (before_feed (drop next held)) + cond b 1 0) e c.place in
        omega (arith, p, g.3, length-drop next held, t.inside)

    pub goes_on : Batched held t₀ from (typed_in room' r.line) r.at page.at page.room.now
    unfolding last_of printed
    goes_on =
        let g = no_feed (typed_in room l) (drop next held) (sym c.ended_is ∙ e) in
        let d : drop r.at held ≡ [] = c.rest_is ∙ g.2 in
        record {
          same = rw d (c.typed_is ∙ sym g.1 ∙ t.same);
          joined = rw d (ap (λ (x : List ℕ). take page.at page.room.now ++ x) (sym g.0) ∙ t.joined);
          all = λ z. taken;
          onward = λ z. absurd (omega (arith, z, due));
          within = c.inside;
          short = t.short;
        }

  -- the line has ended and been answered
  module _ (e : r.ended ≡ true) where
    place_is : r.at ≡ next + length (before_feed (drop next held)) + 1
    place_is = subst (λ (b : Bool). r.at ≡ next + length (before_feed (drop next held)) + cond b 1 0) e c.place

    pub onward : next < r.at
    onward = omega (arith, place_is)

    pub ended_on : (page' : Page) (n : Line) → Prints page (answer_of (typed_in room' r.line)) page' → Starts n → Turning held t₀ from room' n r.at page'
    ended_on page' n w s =
        let f : has_feed (drop next held) ≡ true = sym c.ended_is ∙ e in
        let p = printed_feed (typed_in room l) (drop next held) f in
        let q = last_feed (typed_in room l) (drop next held) f in
        let i : typed_in room' n ≡ fresh = s.typed_is room' in
        let b = printed_behind t.short w in
        let a : answer_of (typed_in room' r.line) ≡ answer_of (typed_all (typed_in room l) (before_feed (drop next held))) = ap answer_of c.typed_is in
        record {
          keeps = s.keeps room' c.keeps.long;
          same = rw (i, c.rest_is) (sym q ∙ t.same);
          joined =
              rw (i, c.rest_is, b, a)
              (append_assoc (take page.at page.room.now) (answer_of (typed_all (typed_in room l) (before_feed (drop next held)))) (printed fresh (behind_feed (drop next held)))
              ∙ ap (λ (x : List ℕ). take page.at page.room.now ++ x) (sym p) ∙ t.joined);
          ahead = λ z. omega (arith, onward, t.ordered);
          ordered = omega (arith, onward, t.ordered);
          inside = c.inside;
          short = printed-within t.short w;
          long = w.long ∙ t.long;
        }

-- lines are due
pub due_now : (held : List ℕ) (t₀ : Typed) (from : ℕ) (room : List ℕ) (l : Line) (next : ℕ) (page : Page) → Turning held t₀ from room l next page → 32768 ≤ page.at
    → Batched held t₀ from (typed_in room l) next page.at page.room.now
due_now held t₀ from room l next page t d =
    record { same = t.same; joined = t.joined; all = λ z. absurd (omega (arith, z, d)); onward = λ z. t.ahead (omega (arith, d)); within = t.inside; short = t.short }

-- all that is held has been taken: the line that goes on is the last one
pub taken-all : {held : List ℕ} {t : Typed} {from : ℕ} {t' : Typed} {from' at : ℕ} {out : List ℕ} → Batched held t from t' from' at out → at < 32768 → t' ≡ last_of t (drop from held)
unfolding last_of
taken-all {held} {t} {from} {t'} {from'} b h =
    let d : drop from' held ≡ [] = drop_of_length-le held {i = from'} (omega (arith, b.all h)) in
    sym (ap (last_of t') d) ∙ b.same
