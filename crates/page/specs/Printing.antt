-- Octets printed on a page, one after another.
use Rattle.std.specs.Prelude.{ℕ, ◌+◌, ◌≤◌, ◌≡◌, List, length}
use Rattle.meaning.specs.Octets.{splice}
use Rattle.page.specs.declared.Page.{Page}

-- so many more octets can be printed
abbrev pub HasRoom : Page → ℕ → Type 0
HasRoom p n = p.at + n ≤ length p.room.now

-- octets printed: they stand from the page's place on, its place is behind them, and it still is the same room, as long as before
pub record Prints (p : Page) (w : List ℕ) (q : Page) : Type 0 where
  pub place : q.at ≡ p.at + length w
  pub octets : q.room.now ≡ splice p.room.now p.at w
  pub room : q.room.ghost_name ≡ p.room.ghost_name
  pub long : length q.room.now ≡ length p.room.now
