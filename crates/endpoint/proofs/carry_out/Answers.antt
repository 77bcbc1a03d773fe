-- `endpoint::carry_out` meets its contract.
use Prim.Native.Nat.{ℕ}
use mathlib.Core.Path.{◌≡◌, refl, sym, ap, ap₂, ◌∙◌}
use mathlib.Core.Bool.{Bool, false}
use mathlib.Core.List.{List}
use lib.ListN.{length}
use Rattle.meaning.specs.Operation.{Op, parse, or_none}
use Rattle.meaning.specs.Step.{after, answers}
use Rattle.meaning.specs.Reply.{complete}
use Rattle.meaning.specs.Calls.{records, carried_out, fits}
use Rattle.meaning.proofs.Kept.{after-sound}
use Rattle.command.proofs.Sets.{long_of}
use Rattle.command.proofs.Unchanged.{after_unchanged}
use Rattle.command.specs.Answers.{any_change}
use Rattle.tally.specs.declared.Tally.{Tally}
use Rattle.tally.specs.Tallies.{tally_of, reply_length, tally_fits}
use Rattle.tally.proofs.Lengths.{reply-length, tally_fits_lem}
use Rattle.endpoint.specs.declared.Refusal.TheVariants.{ReplyDoesNotFit}
use Rattle.endpoint.proofs.Exits.{gives_number, gives_done, command-fits, command_7}
use Rattle.endpoint.proofs.carry_out.Goals as goal
use Rattle.endpoint.proofs.carry_out.Goals.{Start}

module _ (c : Start) where
  abbrev profile : ℕ
  profile = c.args.profile

  abbrev memory : List ℕ
  memory = c.args.memory.now

  abbrev operations : List Op
  operations = or_none (parse profile c.args.list.now)

  abbrev room : List ℕ
  room = c.args.room.now

  -- the tally tells whether the reply fits, and how long it is
  module _ (t : Tally) (n : ℕ) (k : t ≡ tally_of (records profile memory operations)) (l : n ≡ reply_length profile t) where
    tested : (b : Bool) → b ≡ tally_fits n (length room) t → fits (length room) (carried_out profile memory operations) ≡ b
    tested b f =
        sym
        (f
        ∙ ap₂ (λ (i : ℕ) (u : Tally). tally_fits i (length room) u) (l ∙ ap (reply_length profile) k) k
        ∙ tally_fits_lem profile (length room) memory operations)

    told-length : n ≡ length (complete profile (records profile memory operations))
    told-length = l ∙ ap (reply_length profile) k ∙ reply-length (records profile memory operations) profile

  -- the copy as the operations leave it
  module _ (copied : List ℕ) (is : copied ≡ after profile memory operations) where
    as_long : length memory ≡ length copied
    as_long = long_of _ c.requires.0 ∙ sym (ap length is ∙ long_of _ (after-sound profile memory operations c.requires.0))

    unchanged : (changed : Bool) → changed ≡ any_change (answers profile memory operations) → changed ≡ false → memory ≡ copied
    unchanged changed f e = sym (is ∙ after_unchanged profile memory operations (sym f ∙ e))

pub returns-then-not-fits : goal.returns-then-not-fits
returns-then-not-fits c =
    let s = (goal.at.returns-then-not-fits c).Start in
    let t = tested s _ _ c.take-taken.ensures.tally_value c.reply_length-n.ensures _ c.fits.ensures in
    gives_number (memory s) (room s) 7 ReplyDoesNotFit (command_7 (profile s) (memory s) c.args.list.now (room s) (t ∙ c.if-not-fits.true)) refl refl

pub write-requires : goal.write-requires
write-requires c =
    let t = c.take-taken.ensures in
    ((c.requires.0, c.requires.1, c.requires.2, t.copy_after, t.changed_value), (t.tally_value, t.below, ap (λ (l : ℕ). tally_fits l (length c.args.room.now) c.take-taken.result.tally) (sym c.reply_length-n.ensures) ∙ sym c.fits.ensures ∙ c.if-not-fits.false))

pub renew-requires : goal.renew-requires
renew-requires c =
    let s = (goal.at.renew-requires c).Start in
    let w = c.write.ensures.copy_after in
    (as_long s _ w, unchanged s _ w _ c.take-taken.ensures.changed_value)

pub returns : goal.returns
returns c =
    let s = (goal.at.returns c).Start in
    let k = c.take-taken.ensures.tally_value in
    let l = c.reply_length-n.ensures in
    gives_done (complete (profile s) (records (profile s) (memory s) (operations s))) (after (profile s) (memory s) (operations s)) (room s) c.reply_length-n.result
    (command-fits (profile s) (memory s) c.args.list.now (room s) (tested s _ _ k l _ c.fits.ensures ∙ c.if-not-fits.false)) (told-length s _ _ k l)
    (c.renew.ensures ∙ c.write.ensures.copy_after) c.write.ensures.out_after
