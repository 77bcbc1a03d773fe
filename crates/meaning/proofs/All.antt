-- Opens every definition at once, for closed computation: `unfolding all`.
use Rattle.meaning.specs.Octets.{at16, at32, be16, part, splice, flat, same, blank, every, below, implies}
use Rattle.meaning.specs.Checks.{first_failed, when_passed}
use Rattle.meaning.specs.Table.{rows, row_at, place_in, place, by_controller, by_port, rooms, room_at}
use Rattle.meaning.specs.Block.{as_number_from, as_number, time_ok, cut_in, entries_of, interval, entry_ok, each_ok, list_ok, intervals, ratio_ok, cycle, sums_from, sums_of, sums, joined_block, base_of, count_of, list_of, ratio_of, form_and_fit, keeps, permits}
use Rattle.meaning.specs.Memory.{cell, room, is_present, is_subscribed, is_pending, is_in_flight, size, present, subscribed, pending, in_flight, body, timer, waiting, expiries, bit, flags, cell_of, room_of, put_cell, put_room, put, store, set_marks, set_timer, entry_sound, entries_sound, four_present, timer_sound, sound, absent, fresh}
use Rattle.meaning.specs.Profile.{is_profile, is_release16, lists, listed, names_length, has_code, spared, on_wire, in_memory, sendable, cause_absent, bounded, sound_in}
use Rattle.meaning.specs.Delay.{units, low_first, delay, low_number, nanoseconds_in, units_over}
use Rattle.meaning.specs.Profile.{listed}
use Rattle.meaning.specs.Operation.{shape_of, shape, whole, shaped, more, follow, parse_in, parse, from_broken, broken_in, broken, break_of}
use Rattle.meaning.specs.Step.{shown, read_checks, read_answer, block, commits, permitted, set_checks, set_answer, stored, set_memory, subscribe_memory, unsubscribe_memory, step, answer, after, answers}
use Rattle.meaning.specs.Reply.{record_of, gathered, held_octets, short_octets, failed_octets, read_contents, long_octets, set_contents, all_names, element, complete, counts_fit}
use Rattle.meaning.specs.Calls.{call, pending_after, in_flight_after, turned, is_command, is_acknowledgement, length_field, operations, ops_of, length_right, records, carried_out, acknowledged, handled, fits, message_checks, message, local_permitted, differs, local_memory, local_checks, local_value, report, reports, notification, build_checks, build, expired, expiry_checks, expiry, make_fresh}
use Rattle.meaning.specs.Gates.{states, entry_at, gates_of, gates_checks, gates, gates_number}

unfoldable pub all : Unit {0}
unfolding at16 at32 be16 part splice flat same blank every below implies first_failed when_passed rows row_at place_in place by_controller by_port rooms room_at as_number_from as_number time_ok cut_in entries_of interval entry_ok each_ok list_ok intervals ratio_ok cycle sums_from sums_of sums joined_block base_of count_of list_of ratio_of form_and_fit keeps permits cell room is_present is_subscribed is_pending is_in_flight size present subscribed pending in_flight body timer waiting expiries bit flags cell_of room_of put_cell put_room put store set_marks set_timer entry_sound entries_sound four_present timer_sound sound absent fresh units low_first delay low_number nanoseconds_in units_over is_profile is_release16 lists listed names_length has_code spared on_wire in_memory sendable cause_absent bounded sound_in shape_of shape whole shaped more follow parse_in parse from_broken broken_in broken break_of shown read_checks read_answer block commits permitted set_checks set_answer stored set_memory subscribe_memory unsubscribe_memory step answer after answers record_of gathered held_octets short_octets failed_octets read_contents long_octets set_contents all_names element complete counts_fit call pending_after in_flight_after turned is_command is_acknowledgement length_field operations ops_of length_right records carried_out acknowledged handled fits message_checks message local_permitted differs local_memory local_checks local_value report reports notification build_checks build expired expiry_checks expiry make_fresh states entry_at gates_of gates_checks gates gates_number
all = tt
