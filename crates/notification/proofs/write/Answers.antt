-- `notification::write` meets its contract.
use Prim.Native.Nat.{ℕ, ◌+◌, ◌*◌, ◌≤◌, ◌<◌}
use native.Mathlib.Omega.{arith}
use mathlib.Core.Bool.{true, false}
use mathlib.Core.List.{List, [], ◌∷◌, ◌++◌}
use Rattle.meaning.specs.Octets.{be16}
use Rattle.meaning.specs.Table.{entry_count}
use Rattle.meaning.specs.Profile.{release18}
use Rattle.meaning.specs.Step.{Answer}
use Rattle.meaning.specs.Calls.{reports, notification}
use Rattle.records.proofs.Pieces.{Left, wrote_this, first_fits, left_fits, left_next, left_last}
use Rattle.notification.specs.Reports.{part_of}
use Rattle.notification.proofs.Reported.{after_values, after_count, after_head, head_of, due_small, started, same_values}
use Rattle.notification.proofs.write.Goals as goal
use Rattle.notification.proofs.write.Goals.{After-write_count-absent, After-write_count-values, After-write_head-head, After-write_values-count, Start}

-- what is reported
abbrev told : ℕ → List ℕ → List Answer
told p m = reports p m entry_count

-- what is left after each piece, by what was left before it
abbrev Rest : ℕ → List ℕ → List ℕ → List ℕ → ℕ → List ℕ → Type 0
Rest p m room out at rest = Left room 0 (notification p m) out at rest

begun : (c : Start) → Rest c.args.profile c.args.m.now c.args.out.now c.args.out.now 0 (head_of c.args.d ++ after_head c.args.d (told c.args.profile c.args.m.now))
begun c =
    let a = c.args in
    started a.profile a.m.now a.d c.requires.1 a.out.now c.requires.0 c.requires.2

headed : (c : After-write_head-head)
    → Rest c.args.profile c.args.m.now c.args.out.now c.args.out.now 0 (head_of c.args.d ++ after_head c.args.d (told c.args.profile c.args.m.now))
    → Rest c.args.profile c.args.m.now c.args.out.now c.write_head-head.new.out c.write_head-head.result (after_head c.args.d (told c.args.profile c.args.m.now))
unfolding be16
headed c b = left_next (head_of c.args.d) (after_head c.args.d (told c.args.profile c.args.m.now)) b c.write_head-head.ensures

numbered : (c : After-write_count-values)
    → Rest c.args.profile c.args.m.now c.args.out.now c.write_head-head.new.out c.write_head-head.result (after_head c.args.d (told c.args.profile c.args.m.now))
    → Rest c.args.profile c.args.m.now c.args.out.now c.write_count-values.new.out c.write_count-values.result (after_count c.args.d (told c.args.profile c.args.m.now))
numbered c b = left_next (c.args.d.values ∷ []) (after_count c.args.d (told c.args.profile c.args.m.now)) b c.write_count-values.ensures

valued : (c : After-write_values-count)
    → Rest c.args.profile c.args.m.now c.args.out.now c.write_count-values.new.out c.write_count-values.result (after_count c.args.d (told c.args.profile c.args.m.now))
    → Rest c.args.profile c.args.m.now c.args.out.now c.write_values-count.new.out c.write_values-count.result (after_values c.args.d (told c.args.profile c.args.m.now))
valued c b = left_next (part_of true (told c.args.profile c.args.m.now)) (after_values c.args.d (told c.args.profile c.args.m.now)) b (wrote_this _ _ (same_values c.args.profile release18 c.args.m.now entry_count) c.write_values-count.ensures)

counted : (c : After-write_count-absent)
    → Rest c.args.profile c.args.m.now c.args.out.now c.write_values-count.new.out c.write_values-count.result (after_values c.args.d (told c.args.profile c.args.m.now))
    → Rest c.args.profile c.args.m.now c.args.out.now c.write_count-absent.new.out c.write_count-absent.result (part_of false (told c.args.profile c.args.m.now))
counted c b = left_next (c.args.d.absent ∷ []) (part_of false (told c.args.profile c.args.m.now)) b c.write_count-absent.ensures

small : (c : Start) → (2 + c.args.d.octets + 3 * c.args.d.absent < 65536) × (c.args.d.values ≤ 255) × (c.args.d.absent ≤ 255)
small c = due_small c.args.profile c.args.m.now c.args.d c.requires.1 c.requires.0

pub overflow_add-d : goal.overflow_add-d
overflow_add-d c = omega (arith, (small (goal.at.overflow_add-d c).Start).0)

pub overflow_mul-d : goal.overflow_mul-d
overflow_mul-d c = omega (arith, (small (goal.at.overflow_mul-d c).Start).0)

pub overflow_add-d-2 : goal.overflow_add-d-2
overflow_add-d-2 c = omega (arith, (small (goal.at.overflow_add-d-2 c).Start).0)

pub write_head-head-requires : goal.write_head-head-requires
unfolding be16
write_head-head-requires c =
    let places = goal.at.write_head-head-requires c in
    (first_fits (head_of c.args.d) (after_head c.args.d (told c.args.profile c.args.m.now)) (begun places.Start), (small places.Start).0)

pub write_count-values-requires : goal.write_count-values-requires
write_count-values-requires c =
    let places = goal.at.write_count-values-requires c in
    (first_fits (c.args.d.values ∷ []) (after_count c.args.d (told c.args.profile c.args.m.now)) (headed places.After-write_head-head (begun places.Start)), (small places.Start).1)

pub write_values-count-requires : goal.write_values-count-requires
write_values-count-requires c =
    let places = goal.at.write_values-count-requires c in
    rw (same_values release18 c.args.profile c.args.m.now entry_count) (first_fits (part_of true (told c.args.profile c.args.m.now)) (after_values c.args.d (told c.args.profile c.args.m.now)) (numbered places.After-write_count-values (headed places.After-write_head-head (begun places.Start))))

pub write_count-absent-requires : goal.write_count-absent-requires
write_count-absent-requires c =
    let places = goal.at.write_count-absent-requires c in
    (first_fits (c.args.d.absent ∷ []) (part_of false (told c.args.profile c.args.m.now)) (valued places.After-write_values-count (numbered places.After-write_count-values (headed places.After-write_head-head (begun places.Start)))), (small places.Start).2)

pub write_absent-requires : goal.write_absent-requires
write_absent-requires c =
    let places = goal.at.write_absent-requires c in
    (left_fits (counted places.After-write_count-absent (valued places.After-write_values-count (numbered places.After-write_count-values (headed places.After-write_head-head (begun places.Start))))))

pub returns : goal.returns
returns c =
    let places = goal.at.returns c in
    left_last (counted places.After-write_count-absent (valued places.After-write_values-count (numbered places.After-write_count-values (headed places.After-write_head-head (begun places.Start))))) c.write_absent.ensures
