-- The profile (RULES 24): the octet that says which release of the standard a port's controllers speak. All that it decides stands here.
use Rattle.std.specs.Prelude.{ℕ, ◌+◌, ◌*◌, Bool, ◌&&◌, ◌||◌, not, cond, List, [], ◌∷◌, ◌++◌, length, drop, eqb, leb, ltb}
use Rattle.meaning.specs.Octets.{zeros, every, implies}
use Rattle.meaning.specs.Table.{place, entry_count, admin_control_list_length, admin_control_list, supported_list_max, commit}
use Rattle.meaning.specs.Wire.{code_unsubscribe, cause_unavailable, cause_protocol_error, short_most}
use Rattle.meaning.specs.Memory.{subscribed, body, sound}

abbrev pub release18 : ℕ
release18 = 2

abbrev pub release16 : ℕ
release16 = 3

-- there is no other (RULES 24.1)
unfoldable pub is_profile : ℕ → Bool
is_profile p = eqb p release18 || eqb p release16

unfoldable pub is_release16 : ℕ → Bool
is_release16 p = eqb p release16

-- ---- on the wire

-- the place has a name that is listed: all 19, in Release 16 without SupportedListMax (RULES 24.3)
unfoldable pub lists : ℕ → ℕ → Bool
lists p k = ltb k entry_count && not (is_release16 p && eqb k supported_list_max)

unfoldable pub listed : ℕ → ℕ → Bool
listed p n = lists p (place n)

-- octets of all names that are listed, each of 2
unfoldable pub names_length : ℕ → ℕ
names_length p = cond (is_release16 p) 36 38

-- Release 16 has no code above that of unsubscribe (RULES 24.5)
unfoldable pub has_code : ℕ → ℕ → Bool
has_code p c = implies (is_release16 p) (leb c code_unsubscribe)

-- the first octets of a value that memory has and the wire has not: two of AdminControlListLength in Release 16 (RULES 24.4)
unfoldable pub spared : ℕ → ℕ → ℕ
spared p k = cond (is_release16 p && eqb k admin_control_list_length) 2 0

-- the value at a place as it stands on the wire, and one from there as memory has it
unfoldable pub on_wire : ℕ → ℕ → List ℕ → List ℕ
on_wire p k v = drop (spared p k) v

unfoldable pub in_memory : ℕ → ℕ → List ℕ → List ℕ
in_memory p k v = zeros (spared p k) ++ v

-- a value of a set for which there is a record: Release 16 has no long updates (RULES 24.6)
unfoldable pub sendable : ℕ → List ℕ → Bool
sendable p v = implies (is_release16 p) (leb (length v) short_most)

-- the cause of an absent value (RULES 24.7)
unfoldable pub cause_absent : ℕ → ℕ
cause_absent p = cond (is_release16 p) cause_protocol_error cause_unavailable

-- ---- in memory

-- the entries of a list that can be set in Release 16: more do not stand in 255 octets
abbrev pub entries_most16 : ℕ
entries_most16 = 36

-- no longer a list and no longer a running block, and the name that is not listed has no mark (RULES 24.8, 24.9)
unfoldable pub bounded : ℕ → List ℕ → Bool
bounded p m =
    implies (is_release16 p)
    (every
    (leb (length (body m admin_control_list)) (7 * entries_most16)
    ∷ leb (length (body m commit)) (22 + 7 * entries_most16)
    ∷ not (subscribed m supported_list_max)
    ∷ []))

-- sound memory of a port that has this profile
unfoldable pub sound_in : ℕ → List ℕ → Bool
sound_in p m = sound m && bounded p m
