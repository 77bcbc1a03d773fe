-- What stands on the wire as a number, by name: types of messages, elements of a reply, codes of operations, causes; and how much of each thing there may be.
use Rattle.std.specs.Prelude.{ℕ}

-- ---- types of messages

abbrev pub type_command : ℕ
type_command = 0x01

abbrev pub type_complete : ℕ
type_complete = 0x02

abbrev pub type_notify : ℕ
type_notify = 0x03

abbrev pub type_notify_ack : ℕ
type_notify_ack = 0x04

abbrev pub type_notify_complete : ℕ
type_notify_complete = 0x05

-- ---- elements of a reply

abbrev pub element_capability : ℕ
element_capability = 0x70

abbrev pub element_status : ℕ
element_status = 0x71

abbrev pub element_update_result : ℕ
element_update_result = 0x72

-- ---- codes of operations

abbrev pub code_capabilities : ℕ
code_capabilities = 1

abbrev pub code_read : ℕ
code_read = 2

abbrev pub code_set : ℕ
code_set = 3

abbrev pub code_subscribe : ℕ
code_subscribe = 4

abbrev pub code_unsubscribe : ℕ
code_unsubscribe = 5

abbrev pub code_selective_read : ℕ
code_selective_read = 6

abbrev pub code_selective_subscribe : ℕ
code_selective_subscribe = 7

abbrev pub code_selective_unsubscribe : ℕ
code_selective_unsubscribe = 8

abbrev pub code_delete_entry : ℕ
code_delete_entry = 9

-- ---- causes

-- the name is not in the table
abbrev pub cause_not_supported : ℕ
cause_not_supported = 0x01

-- the length, the value's rule or a commit's condition is not met
abbrev pub cause_invalid_value : ℕ
cause_invalid_value = 0x02

-- the value is absent
abbrev pub cause_unavailable : ℕ
cause_unavailable = 0x03

-- the controller does not set this name, or the operation is not served
abbrev pub cause_protocol_error : ℕ
cause_protocol_error = 0x6F

-- ---- limits

-- octets of a message, and of a reply
abbrev pub message_most : ℕ
message_most = 2048

abbrev pub reply_most : ℕ
reply_most = 4096

-- records that a count of one octet can tell, and octets of a value whose length has one octet
abbrev pub count_most : ℕ
count_most = 255

abbrev pub short_most : ℕ
short_most = 255

-- octets that a notification's room has at least
abbrev pub notification_room : ℕ
notification_room = 1600

-- octets of the longest notification
abbrev pub notification_most : ℕ
notification_most = 559

-- expiries after which a notification is sent again; the next gives it up
abbrev pub expiries_most : ℕ
expiries_most = 4
