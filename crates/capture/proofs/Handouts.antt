-- What is handed out: of each kind by its way of reading, a name, a value with a length of w octets or an error; and which kind comes next.
use Prim.Native.Nat.{ℕ, ◌+◌, ◌-◌, ◌≤◌, ◌<◌}
use native.Mathlib.Omega.{arith}
use mathlib.Core.Path.{◌≡◌, ◌∙◌}
use mathlib.Core.List.{List}
use mathlib.Core.Option.{Option, none}
use lib.ListN.{length}
use borrow.Author.Tests.{lt-ltb, le-ltb}
use Rattle.std.specs.Prelude.{Option as Returned, Some, None}
use Rattle.meaning.specs.Capture.{front_name, front_held, front_failed}
use Rattle.contents.specs.Spans.{span, octets_of}
use Rattle.contents.specs.declared.Span.{Span}
use Rattle.contents.proofs.Between.{between, between-length}
use Rattle.capture.specs.declared.Cursor.{Cursor}
use Rattle.capture.specs.declared.Record.{Record}
use Rattle.capture.specs.declared.Record.TheVariants.{Name}
use Rattle.capture.specs.declared.Refusal.TheVariants.{CutShort}
use Rattle.capture.specs.Handing.{Handed, handed, the_end, refused, front_of, name_in, held_in, failed_in, handing, valued, failed, handed_name, handed_value, handed_read_error, handed_update, handed_update_error, handed_long_update, if_left, handed_at}
use Rattle.capture.proofs.Fronts.{front_name_lem, no_front_name, name-told, no_name-told, front_failed_lem, no_front_failed, failed-told, no_failed-told, held-told, no_held-told}

-- ---- of each kind

none_handed : {A : Type 0} (make : ℕ → A → Record) (put : Span → Cursor) (to : ℕ) (o : Option (A × List ℕ)) → o ≡ none → refused CutShort ≡ handing make put to o
unfolding handing
none_handed make put to o e = rw e

-- where the octets begin that are left
left_from : (s : List ℕ) (at to : ℕ) → to ≤ length s → at ≤ to → to - length (between s at to) ≡ at
left_from s at to l h = omega (arith, between-length s at to l h)

module _ (put : Span → Cursor) (s : List ℕ) (p : Span) (h : p.from ≤ p.to) where
  pub name_handed : (n : ℕ) → Some n ≡ name_in s p
      → handed (Name n) (put (span (p.from + 2) p.to)) ≡ handing (λ end m. Name m) put p.to (front_of front_name s p)
  unfolding handing
  name_handed n e =
      let t = name-told s p h n e in
      rw (front_name_lem s p t.0, left_from s (p.from + 2) p.to t.0.0 t.0.1, t.1)

  pub no_name_handed : None ≡ name_in s p → refused CutShort ≡ handing (λ end m. Name m) put p.to (front_of front_name s p)
  no_name_handed e = none_handed (λ end m. Name m) put p.to _ (no_front_name s p h (no_name-told s p h e))

  module _ (make : ℕ → Span → Record) (w : ℕ) (g : 1 ≤ w) where
    pub value_handed : (n : ℕ) (v : Span) → Some (n, v) ≡ held_in w s p
        → handed (make n v) (put (span v.to p.to)) ≡ handing (valued make) put p.to (front_of (front_held w) s p)
    unfolding handing valued octets_of
    value_handed n v e =
        let t = held-told w s p h g n v e in
        let i : v.to - (v.to - v.from) ≡ v.from = omega (arith, t.1) in
        rw (t.0, left_from s v.to p.to t.3 t.2, between-length s v.from v.to (omega (arith, t.2, t.3)) t.1, i)

    pub no_value_handed : None ≡ held_in w s p → refused CutShort ≡ handing (valued make) put p.to (front_of (front_held w) s p)
    no_value_handed e = none_handed (valued make) put p.to _ (no_held-told w s p h g e)

  module _ (make : ℕ → ℕ → Record) (cause : ℕ → ℕ) where
    pub error_handed : (n b c : ℕ) → Some (n, b) ≡ failed_in s p → c ≡ cause b
        → handed (make n c) (put (span (p.from + 3) p.to)) ≡ handing (failed make) put p.to (front_of (front_failed cause) s p)
    unfolding handing failed
    error_handed n b c e f =
        let t = failed-told s p h n b e in
        rw (front_failed_lem cause s p t.0, left_from s (p.from + 3) p.to t.0.0 t.0.1, f, t.1, t.2)

    pub no_error_handed : None ≡ failed_in s p → refused CutShort ≡ handing (failed make) put p.to (front_of (front_failed cause) s p)
    no_error_handed e = none_handed (failed make) put p.to _ (no_front_failed cause s p h (no_failed-told s p h e))

-- ---- the kind that comes next

-- octets of a span are left, or none are
abbrev Left : Span → Type 0
Left p = p.from < p.to

abbrev Nothing : Span → Type 0
Nothing p = p.to ≤ p.from

here : (p : Span) (x y : Handed) → Left p → x ≡ if_left p x y
unfolding if_left
here p x y h = rw (lt-ltb p.from p.to h)

past : (p : Span) (x y : Handed) → Nothing p → y ≡ if_left p x y
unfolding if_left
past p x y h = rw (le-ltb p.from p.to h)

module _ (s : List ℕ) (c : Cursor) where
  -- what is handed out of a kind or of one behind it
  abbrev long_updates_on : Handed
  long_updates_on = if_left c.long_updates (handed_long_update s c) the_end

  abbrev update_errors_on : Handed
  update_errors_on = if_left c.update_errors (handed_update_error s c) long_updates_on

  abbrev updates_on : Handed
  updates_on = if_left c.updates (handed_update s c) update_errors_on

  abbrev read_errors_on : Handed
  read_errors_on = if_left c.read_errors (handed_read_error s c) updates_on

  abbrev values_on : Handed
  values_on = if_left c.values (handed_value s c) read_errors_on

  pub name-next : Left c.names → handed_name s c ≡ handed_at s c
  unfolding handed_at
  name-next h = here c.names (handed_name s c) values_on h

  module _ (n : Nothing c.names) where
    behind-names : values_on ≡ handed_at s c
    unfolding handed_at
    behind-names = past c.names (handed_name s c) values_on n

    pub value-next : Left c.values → handed_value s c ≡ handed_at s c
    value-next h = here c.values (handed_value s c) read_errors_on h ∙ behind-names

    module _ (v : Nothing c.values) where
      behind-values : read_errors_on ≡ handed_at s c
      behind-values = past c.values (handed_value s c) read_errors_on v ∙ behind-names

      pub read_error_next : Left c.read_errors → handed_read_error s c ≡ handed_at s c
      read_error_next h = here c.read_errors (handed_read_error s c) updates_on h ∙ behind-values

      module _ (e : Nothing c.read_errors) where
        behind-read_errors : updates_on ≡ handed_at s c
        behind-read_errors = past c.read_errors (handed_read_error s c) updates_on e ∙ behind-values

        pub update-next : Left c.updates → handed_update s c ≡ handed_at s c
        update-next h = here c.updates (handed_update s c) update_errors_on h ∙ behind-read_errors

        module _ (u : Nothing c.updates) where
          behind-updates : update_errors_on ≡ handed_at s c
          behind-updates = past c.updates (handed_update s c) update_errors_on u ∙ behind-read_errors

          pub update_error_next : Left c.update_errors → handed_update_error s c ≡ handed_at s c
          update_error_next h = here c.update_errors (handed_update_error s c) long_updates_on h ∙ behind-updates

          module _ (f : Nothing c.update_errors) where
            behind-update_errors : long_updates_on ≡ handed_at s c
            behind-update_errors = past c.update_errors (handed_update_error s c) long_updates_on f ∙ behind-updates

            pub long-update-next : Left c.long_updates → handed_long_update s c ≡ handed_at s c
            long-update-next h = here c.long_updates (handed_long_update s c) the_end h ∙ behind-update_errors

            pub nothing_next : Nothing c.long_updates → the_end ≡ handed_at s c
            nothing_next l = past c.long_updates (handed_long_update s c) the_end l ∙ behind-update_errors
