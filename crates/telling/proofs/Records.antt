-- Records told one after another: one line more is written, what is left is one record less, and at last nothing is left.
use Prim.Native.Nat.{ℕ, ◌+◌, ◌*◌, ◌<◌}
use native.Mathlib.Omega.{arith}
use mathlib.Core.Path.{◌≡◌, refl, sym, ap, subst}
use mathlib.Core.List.{List, [], ◌∷◌}
use lib.ListN.{length}
use Rattle.std.specs.Prelude.{Some, None, Ok, Err}
use Rattle.meaning.specs.Octets.{flat}
use Rattle.meaning.specs.Capture.{Capture, OneRecord, in_order}
use Rattle.page.specs.declared.Page.{Page}
use Rattle.page.specs.Printing.{HasRoom, Prints}
use Rattle.page.proofs.Prints.{room_behind, prints_both, prints_none}
use Rattle.capture.specs.Handing.{Handed, handed, the_end, record_of, Inside, handed_at}
use Rattle.capture.specs.declared.Cursor.{Cursor}
use Rattle.capture.specs.declared.Record.{Record}
use Rattle.capture.specs.declared.Refusal.{Refusal}
use Rattle.capture.proofs.FromCursor.{Holds, Next, ends, hands, next}
use Rattle.words.specs.Lines.{record_line, record_size}
use Rattle.words.proofs.Short.{line-bounded}
use Rattle.telling.specs.Remaining.{sizes, held, remaining, Ready}

-- ---- what a cursor holds

held_is : (s : List ℕ) (c : Cursor) (r : Capture) → Holds s c r → held s c ≡ r
unfolding held
held_is s c r h = rw (h.names.read, h.values.read, h.read_errors.read, h.updates.read, h.update_errors.read, h.long_updates.read)

-- a cursor that holds whole records hands out the first of them
pub record Onward (s : List ℕ) (h : Handed) (l : List OneRecord) : Type 0 where
  pub ready : Ready s h
  pub left : remaining s h ≡ l

pub onward : (s : List ℕ) (c : Cursor) (r : Capture) → Holds s c r → Onward s (handed_at s c) (in_order r)
unfolding remaining
onward s c r h = go (next s c r h)
  where
    go : Next s c r → Onward s (handed_at s c) (in_order r)
    go (ends a o) = rw a (record { ready = tt; left = sym o })
    go (hands one c' r' a o h' i) =
        let e = held_is s c' r' h' in
        rw a (record { ready = (i, rw e h'); left = rw e (sym o) })

-- ---- the lines

-- Some records have been told from `first` on: whoever prints those that are left has printed all.
pub record Telling (s : List ℕ) (start : Page) (first : Handed) (page : Page) (now : Handed) : Type 0 where
  pub ready : Ready s now
  pub told : {end : Page} → Prints page (flat record_line (remaining s now)) end → Prints start (flat record_line (remaining s first)) end
  pub room : HasRoom page (24 * sizes (remaining s now))

pub telling_start : (s : List ℕ) (page : Page) (first : Handed) → Ready s first → HasRoom page (24 * sizes (remaining s first)) → Telling s page first page first
telling_start s page first r h = record { ready = r; told = λ w. w; room = h }

-- nothing is left
pub none_remain : (s : List ℕ) (h : Handed) → h ≡ the_end → remaining s h ≡ []
unfolding remaining
none_remain s h e = rw e

pub none_refused : (s : List ℕ) (h : Handed) (x : Refusal) → h ≡ Err x → remaining s h ≡ []
unfolding remaining
none_refused s h x e = rw e

pub not_record : (s : List ℕ) (h : Handed) → ((r : Record) (c : Cursor) → h ≡ handed r c → ⊥) → remaining s h ≡ []
unfolding remaining
not_record s (Ok (Some h)) t = absurd (t h.0 h.1 refl)
not_record s (Ok None) t = refl
not_record s (Err x) t = refl

module _ (s : List ℕ) (start : Page) (first : Handed) (page : Page) (now : Handed) (t : Telling s start first page now) where
  pub telling_end : remaining s now ≡ [] → Prints start (flat record_line (remaining s first)) page
  unfolding flat
  telling_end e = t.told (rw e (prints_none page))

  -- one record more
  module _ (r : Record) (c : Cursor) (e : now ≡ handed r c) where
    abbrev behind : List OneRecord
    behind = in_order (held s c)

    is_ready : Inside s r × Holds s c (held s c)
    is_ready = subst (Ready s) e t.ready

    left_is : remaining s now ≡ record_of s r ∷ behind
    unfolding remaining
    left_is = ap (remaining s) e

    pub one_inside : Inside s r
    one_inside = is_ready.0

    sizes_are : sizes (remaining s now) ≡ record_size (record_of s r) + sizes behind
    unfolding sizes
    sizes_are = ap sizes left_is

    pub one_room : HasRoom page (24 * record_size (record_of s r))
    one_room = omega (arith, t.room, sizes_are)

    fewer : (next' : Handed) → next' ≡ handed_at s c → Onward s next' behind
    fewer next' n = rw n (onward s c (held s c) is_ready.1)

    pub one_less : (next' : Handed) → next' ≡ handed_at s c → length (remaining s next') < length (remaining s now)
    one_less next' n = omega (arith, ap length (fewer next' n).left, ap length left_is)

    pub telling_on : (next' : Handed) (page' : Page) → next' ≡ handed_at s c → Prints page (record_line (record_of s r)) page' → Telling s start first page' next'
    unfolding flat
    telling_on next' page' n w =
        let line = record_line (record_of s r) in
        let f = fewer next' n in
        let b = line-bounded (record_of s r) in
        let fits : HasRoom page (length line) = omega (arith, one_room, b) in
        record {
          ready = f.ready;
          told = λ v. t.told (rw left_is (prints_both fits w (rw f.left at v)));
          room = room_behind (24 * sizes (remaining s now)) _ t.room w (omega (arith, b, sizes_are, ap sizes f.left));
        }
