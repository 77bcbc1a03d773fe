-- An entry that stands at a place of a list: what is answered where it is the last, where its interval has not ended, and where it has.
use Prim.Native.Nat.{ℕ, zero, suc, ◌+◌, ◌-◌, ◌≤◌, ◌<◌}
use mathlib.Core.Path.{◌≡◌}
use mathlib.Core.List.{List}
use lib.ListN.{drop}
use lib.Seq.{get_or-drop, drop-drop}
use borrow.Author.Tests.{lt-ltb, le-ltb}
use Rattle.meaning.specs.Octets.{octet, at32}
use Rattle.meaning.specs.Gates.{opens, states, entry_at}
use Rattle.meaning.proofs.Holding.{interval_at}

module _ (v : List ℕ) (at k from t c : ℕ) where
  pub at_last : entry_at zero (drop at v) k from t c ≡ opens (octet v (at + 2)) k (c - t)
  unfolding entry_at states
  at_last = rw get_or-drop

  module _ (d : ℕ) (e : d ≡ at32 v (at + 3)) (n : ℕ) where
    pub not_ended : t < from + d → entry_at (suc n) (drop at v) k from t c ≡ opens (octet v (at + 2)) k (from + d - t)
    unfolding entry_at states
    not_ended h = rw (interval_at v at, e, lt-ltb t (from + at32 v (at + 3)) (rw e at h), get_or-drop)

    pub ended : from + d ≤ t → entry_at (suc n) (drop at v) k from t c ≡ entry_at n (drop (at + 7) v) (k + 1) (from + d) t c
    unfolding entry_at
    ended h = rw (interval_at v at, e, le-ltb t (from + at32 v (at + 3)) (rw e at h), drop-drop)
