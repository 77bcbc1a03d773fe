-- `moves::back` meets its contract.
use native.Mathlib.Omega.{arith}
use mathlib.Core.Path.{◌≡◌, refl, sym, ap, ◌∙◌}
use mathlib.Core.Bool.{true}
use lib.ListN.{length}
use Rattle.std.proofs.lemmas.Option.{MatchOption-at_some}
use Rattle.meaning.specs.FormB.{behind, sound_form_b}
use Rattle.meaning.specs.Moves.{none_in_flight}
use Rattle.meaning.proofs.Moved.{back_1, back_16, back_19, back_17, back_done}
use Rattle.octets.proofs.Splices.{rest_is_lem, splice_all}
use Rattle.moves.specs.declared.Refusal.TheVariants.{MemoryUnsound, RoomNotExact, NotRelease18, InFlight}
use Rattle.moves.proofs.Rooms.{form-long, behind-long, gives_number, gives_moved}
use Rattle.moves.proofs.back.Goals as goal
use Rattle.moves.proofs.back.Goals.{Else-not-none_in_flight, Else-not-sound_form_b}

tested : (c : Else-not-sound_form_b) → sound_form_b c.args.memory.now ≡ true
tested c = sym c.sound_form_b.ensures ∙ c.if-not-sound_form_b.false

none : (c : Else-not-none_in_flight) → none_in_flight (behind c.args.memory.now) ≡ true
none c =
    let m = MatchOption-at_some _ _ _ c.unwrap-m.ensures c.as_array.ensures.cases in
    ap none_in_flight (sym (m.same ∙ rest_is_lem c.args.memory.now 1)) ∙ sym c.none_in_flight.ensures ∙ c.if-not-none_in_flight.false

pub returns-then-not-sound_form_b : goal.returns-then-not-sound_form_b
returns-then-not-sound_form_b c =
    let a = c.args in
    gives_number a.memory.now a.room.now 1 MemoryUnsound (back_1 a.memory.now a.room.now (sym c.sound_form_b.ensures ∙ c.if-not-sound_form_b.true)) refl

pub returns-then-room-ne-OLD_LENGTH : goal.returns-then-room-ne-OLD_LENGTH
returns-then-room-ne-OLD_LENGTH c =
    let a = c.args in
    gives_number a.memory.now a.room.now 16 RoomNotExact (back_16 a.memory.now a.room.now (tested (goal.at.returns-then-room-ne-OLD_LENGTH c).Else-not-sound_form_b) c.if-room-ne-OLD_LENGTH.true) refl

pub bounds-memory-0 : goal.bounds-memory-0
bounds-memory-0 c = omega (arith, form-long _ (tested (goal.at.bounds-memory-0 c).Else-not-sound_form_b))

pub returns-then-memory-ne-RELEASE_18 : goal.returns-then-memory-ne-RELEASE_18
returns-then-memory-ne-RELEASE_18 c =
    let a = c.args in
    gives_number a.memory.now a.room.now 19 NotRelease18 (back_19 a.memory.now a.room.now (tested (goal.at.returns-then-memory-ne-RELEASE_18 c).Else-not-sound_form_b) c.if-room-ne-OLD_LENGTH.false c.if-memory-ne-RELEASE_18.true) refl

pub slice_bounds-as_array-count : goal.slice_bounds-as_array-count
slice_bounds-as_array-count c = omega (arith, form-long _ (tested (goal.at.slice_bounds-as_array-count c).Else-not-sound_form_b))

pub slice_bounds-as_array-start : goal.slice_bounds-as_array-start
slice_bounds-as_array-start c = omega (arith, form-long _ (tested (goal.at.slice_bounds-as_array-start c).Else-not-sound_form_b))

pub unwrap-m-requires : goal.unwrap-m-requires
unwrap-m-requires c =
    let b = c.args.memory.now in
    c.as_array.ensures.variant.1 (ap length (rest_is_lem b 1) ∙ behind-long b (tested (goal.at.unwrap-m-requires c).Else-not-sound_form_b))

pub returns-then-not-none_in_flight : goal.returns-then-not-none_in_flight
returns-then-not-none_in_flight c =
    let a = c.args in
    let b = a.memory.now in
    let m = MatchOption-at_some _ _ _ c.unwrap-m.ensures c.as_array.ensures.cases in
    gives_number b a.room.now 17 InFlight
    (back_17 b a.room.now (tested (goal.at.returns-then-not-none_in_flight c).Else-not-sound_form_b) c.if-room-ne-OLD_LENGTH.false c.if-memory-ne-RELEASE_18.false
    (ap none_in_flight (sym (m.same ∙ rest_is_lem b 1)) ∙ sym c.none_in_flight.ensures ∙ c.if-not-none_in_flight.true)) refl

pub append-requires : goal.append-requires
append-requires c =
    let b = c.args.memory.now in
    let m = MatchOption-at_some _ _ _ c.unwrap-m.ensures c.as_array.ensures.cases in
    omega (arith, ap length (m.same ∙ rest_is_lem b 1), behind-long b (tested (goal.at.append-requires c).Else-not-sound_form_b), c.if-room-ne-OLD_LENGTH.false)

pub returns : goal.returns
returns c =
    let places = goal.at.returns c in
    let a = c.args in
    let b = a.memory.now in
    let s = tested places.Else-not-sound_form_b in
    let m = MatchOption-at_some _ _ _ c.unwrap-m.ensures c.as_array.ensures.cases in
    let w = rw (m.same ∙ rest_is_lem b 1) at c.append.ensures in
    gives_moved (behind b) b _ (back_done b a.room.now s c.if-room-ne-OLD_LENGTH.false c.if-memory-ne-RELEASE_18.false (none places.Else-not-none_in_flight)) (omega (arith, w.0))
    (w.1 ∙ splice_all a.room.now (behind b) (omega (arith, behind-long b s, c.if-room-ne-OLD_LENGTH.false)))
