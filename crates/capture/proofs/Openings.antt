-- What is left to hand out of a message at first: one law for each way in which the functions that open it return.
use Prim.Native.Nat.{ℕ, ◌-◌, ◌%◌, ◌≤◌, ◌<◌}
use mathlib.Core.Path.{◌≡◌}
use mathlib.Core.Bool.{true, false}
use mathlib.Core.List.{List}
use lib.ListN.{length}
use borrow.Author.Tests.{eq-eqb, ne_eqb, lt-ltb, le-ltb}
use Rattle.std.specs.Prelude.{Option as Returned, Some, None}
use Rattle.meaning.specs.Octets.{octet}
use Rattle.meaning.specs.Capture.{sized, is_reply, is_notification}
use Rattle.contents.specs.Spans.{span, octets_of, spanned, walked, is_whole, counted_in}
use Rattle.contents.specs.declared.Span.{Span}
use Rattle.contents.specs.declared.Contents.{Contents}
use Rattle.contents.specs.declared.Counted.{Counted}
use Rattle.contents.proofs.Between.{between, between_end}
use Rattle.capture.specs.declared.Cursor.{Cursor}
use Rattle.capture.specs.Opening.{cursor, nothing_left, opened_names, status_of, opened_status, longs_of, longs_at, with_longs, result_of, opened_result, of_elements, opened_reply, of_contents, opened_notification}
use Rattle.capture.specs.declared.Refusal.TheVariants.{MessageEmpty, MessageTooLong, TypeUnknown}
use Rattle.capture.specs.Handing.{refused, of_opened, handed_first}

abbrev both : Span → Span → Counted
both v e = record { values = v; errors = e }

-- ---- names

module _ (c : Cursor) (p : Span) where
  pub names_unread : p.to ≡ 0 → Some c ≡ opened_names c p
  unfolding opened_names
  names_unread z = rw (eq-eqb p.to 0 z)

  module _ (n : p.to ≡ 0 → ⊥) where
    pub names_odd : ((p.to - p.from) % 2 ≡ 0 → ⊥) → None ≡ opened_names c p
    unfolding opened_names
    names_odd o = rw (ne_eqb p.to 0 n, ne_eqb ((p.to - p.from) % 2) 0 o)

    pub names_left : (p.to - p.from) % 2 ≡ 0 → Some (cursor p c.values c.read_errors c.updates c.update_errors c.long_updates) ≡ opened_names c p
    unfolding opened_names
    names_left e = rw (ne_eqb p.to 0 n, eq-eqb ((p.to - p.from) % 2) 0 e)

-- ---- values and read errors

module _ (s : List ℕ) (c : Cursor) (p : Span) where
  pub status_unread : p.to ≡ 0 → Some c ≡ opened_status s c p
  unfolding opened_status
  status_unread z = rw (eq-eqb p.to 0 z)

  module _ (n : p.to ≡ 0 → ⊥) where
    pub status_cut : None ≡ counted_in 2 s p → None ≡ opened_status s c p
    unfolding opened_status status_of
    status_cut e = rw (ne_eqb p.to 0 n, ← e)

    module _ (v f : Span) (e : Some (both v f) ≡ counted_in 2 s p) where
      pub status_over : (f.to ≡ p.to → ⊥) → None ≡ opened_status s c p
      unfolding opened_status status_of
      status_over o = rw (ne_eqb p.to 0 n, ← e, ne_eqb f.to p.to o)

      pub status_left : f.to ≡ p.to → Some (cursor c.names v f c.updates c.update_errors c.long_updates) ≡ opened_status s c p
      unfolding opened_status status_of
      status_left x = rw (ne_eqb p.to 0 n, ← e, eq-eqb f.to p.to x)

-- ---- long updates

module _ (s : List ℕ) (at to : ℕ) where
  pub longs_none : at ≡ to → Some (span to to) ≡ longs_at s at to
  unfolding longs_at
  longs_none z = rw (eq-eqb at to z)

  module _ (n : at ≡ to → ⊥) where
    pub longs_cut : None ≡ spanned to (sized 2 (between s at to)) → None ≡ longs_at s at to
    unfolding longs_at longs_of
    longs_cut e = rw (ne_eqb at to n, ← e)

    module _ (p : Span) (e : Some p ≡ spanned to (sized 2 (between s at to))) where
      pub longs_over : (p.to ≡ to → ⊥) → None ≡ longs_at s at to
      unfolding longs_at longs_of
      longs_over o = rw (ne_eqb at to n, ← e, ne_eqb p.to to o)

      pub longs_broken : p.to ≡ to → false ≡ is_whole (between s p.from p.to) → None ≡ longs_at s at to
      unfolding longs_at longs_of octets_of
      longs_broken x b = rw (ne_eqb at to n, ← e, eq-eqb p.to to x, ← b)

      pub longs_left : p.to ≡ to → true ≡ is_whole (between s p.from p.to) → Some p ≡ longs_at s at to
      unfolding longs_at longs_of octets_of
      longs_left x b = rw (ne_eqb at to n, ← e, eq-eqb p.to to x, ← b)

-- ---- updates and their errors

module _ (s : List ℕ) (c : Cursor) (p : Span) where
  pub result_unread : p.to ≡ 0 → Some c ≡ opened_result s c p
  unfolding opened_result
  result_unread z = rw (eq-eqb p.to 0 z)

  module _ (n : p.to ≡ 0 → ⊥) where
    pub result_cut : None ≡ counted_in 1 s p → None ≡ opened_result s c p
    unfolding opened_result result_of
    result_cut e = rw (ne_eqb p.to 0 n, ← e)

    module _ (u f : Span) (e : Some (both u f) ≡ counted_in 1 s p) where
      pub result-broken : None ≡ longs_at s f.to p.to → None ≡ opened_result s c p
      unfolding opened_result result_of with_longs
      result-broken b = rw (ne_eqb p.to 0 n, ← e, ← b)

      pub result_left : (l : Span) → Some l ≡ longs_at s f.to p.to → Some (cursor c.names c.values c.read_errors u f l) ≡ opened_result s c p
      unfolding opened_result result_of with_longs
      result_left l b = rw (ne_eqb p.to 0 n, ← e, ← b)

-- ---- a reply, and a notification

module _ (s : List ℕ) where
  pub reply_cut : None ≡ walked s → None ≡ opened_reply s
  unfolding opened_reply of_elements
  reply_cut e = rw (← e)

  module _ (k : Contents) (e : Some k ≡ walked s) (z : Cursor) (o : z ≡ nothing_left) where
    pub reply-names_cut : None ≡ opened_names z k.names → None ≡ opened_reply s
    unfolding opened_reply of_elements
    reply-names_cut n = rw (← e, ← o, ← n)

    module _ (a : Cursor) (n : Some a ≡ opened_names z k.names) where
      pub reply-status_cut : None ≡ opened_status s a k.status → None ≡ opened_reply s
      unfolding opened_reply of_elements
      reply-status_cut t = rw (← e, ← o, ← n, ← t)

      pub reply_opened : (b : Cursor) → Some b ≡ opened_status s a k.status → opened_result s b k.result ≡ opened_reply s
      unfolding opened_reply of_elements
      reply_opened b t = rw (← e, ← o, ← n, ← t)

  pub notification_cut : None ≡ spanned (length s) (sized 2 (between s 1 (length s))) → None ≡ opened_notification s
  unfolding opened_notification of_contents
  notification_cut e = rw (← between_end s 1, ← e)

  pub notification_opened : (p : Span) (z : Cursor) → Some p ≡ spanned (length s) (sized 2 (between s 1 (length s))) → z ≡ nothing_left
      → opened_status s z p ≡ opened_notification s
  unfolding opened_notification of_contents
  notification_opened p z e o = rw (o, ← between_end s 1, ← e)

-- ---- what a message hands out first

module _ (s : List ℕ) where
  pub first_empty : length s < 1 → refused MessageEmpty ≡ handed_first s
  unfolding handed_first
  first_empty h = rw (lt-ltb (length s) 1 h)

  module _ (h : 1 ≤ length s) where
    pub first_too_long : 4096 < length s → refused MessageTooLong ≡ handed_first s
    unfolding handed_first
    first_too_long m = rw (le-ltb (length s) 1 h, lt-ltb 4096 (length s) m)

    module _ (m : length s ≤ 4096) where
      pub first_of_reply : octet s 0 ≡ 2 → of_opened s (opened_reply s) ≡ handed_first s
      unfolding handed_first is_reply
      first_of_reply e = rw (le-ltb (length s) 1 h, le-ltb 4096 (length s) m, e)

      pub first_of_notification : octet s 0 ≡ 3 → of_opened s (opened_notification s) ≡ handed_first s
      unfolding handed_first is_reply is_notification
      first_of_notification e = rw (le-ltb (length s) 1 h, le-ltb 4096 (length s) m, e)

      pub first_unknown : (octet s 0 ≡ 2 → ⊥) → (octet s 0 ≡ 3 → ⊥) → refused TypeUnknown ≡ handed_first s
      unfolding handed_first is_reply is_notification
      first_unknown a b = rw (le-ltb (length s) 1 h, le-ltb 4096 (length s) m, ne_eqb (octet s 0) 2 a, ne_eqb (octet s 0) 3 b)
