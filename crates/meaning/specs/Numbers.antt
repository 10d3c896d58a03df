-- The limits, refusals and faults of document 01, each number under one name.
-- The numbers of the events stand in Events, the op numbers of the rows in Bytes: there the table itself names them.
use Rattle.std.specs.Prelude.{ℕ}

-- 'Job text': at most 16,384 bytes; 0 to 16 chans; CAP 0 to 16; 1 to 16 tasks; 0 to 8 cases; V 0 to 65,535; N 0 to 255;
-- blocks nest at most 6 deep. 'Step image': at most 1,024 rows. 'A listing, whole': up to 48,000 bytes of input.
abbrev pub text_limit : ℕ
text_limit = 16384

abbrev pub channel_limit : ℕ
channel_limit = 16

abbrev pub capacity_limit : ℕ
capacity_limit = 16

abbrev pub task_limit : ℕ
task_limit = 16

abbrev pub case_limit : ℕ
case_limit = 8

abbrev pub value_limit : ℕ
value_limit = 65535

abbrev pub lap_limit : ℕ
lap_limit = 255

abbrev pub depth_limit : ℕ
depth_limit = 6

abbrev pub row_limit : ℕ
row_limit = 1024

abbrev pub input_limit : ℕ
input_limit = 48000

-- 'Turn events': "65,535 is followed by 0": stamps are counted modulo this.
abbrev pub stamp_modulus : ℕ
stamp_modulus = 65536

-- 'What comes back', a refused translation, in the order of its table.
abbrev pub text_too_long : ℕ
text_too_long = 1

abbrev pub byte_not_allowed : ℕ
byte_not_allowed = 2

abbrev pub word_out_of_place : ℕ
word_out_of_place = 3

abbrev pub number_due : ℕ
number_due = 4

abbrev pub number_over_range : ℕ
number_over_range = 5

abbrev pub one_too_many : ℕ
one_too_many = 6

abbrev pub too_deep : ℕ
too_deep = 7

abbrev pub rows_full : ℕ
rows_full = 8

abbrev pub cut_short : ℕ
cut_short = 9

abbrev pub no_task_given : ℕ
no_task_given = 10

abbrev pub buffer_too_short : ℕ
buffer_too_short = 11

-- 'What comes back', the image check, in its order.
abbrev pub image_too_short : ℕ
image_too_short = 21

abbrev pub bad_mark : ℕ
bad_mark = 22

abbrev pub bad_version : ℕ
bad_version = 23

abbrev pub bad_counts : ℕ
bad_counts = 24

abbrev pub bad_distance : ℕ
bad_distance = 25

abbrev pub bad_row : ℕ
bad_row = 26

abbrev pub bad_capacity : ℕ
bad_capacity = 27

abbrev pub bad_first_row : ℕ
bad_first_row = 28

-- 'What comes back', a refused turn, in its order.
abbrev pub unfit : ℕ
unfit = 17

abbrev pub halted : ℕ
halted = 13

abbrev pub no_such_task : ℕ
no_such_task = 14

abbrev pub has_ended : ℕ
has_ended = 16

abbrev pub is_waiting : ℕ
is_waiting = 15

-- 'Channel rules', the faults; 0 is none.
abbrev pub no_fault : ℕ
no_fault = 0

abbrev pub send_on_closed : ℕ
send_on_closed = 1

abbrev pub close_of_nil : ℕ
close_of_nil = 2

abbrev pub close_of_closed : ℕ
close_of_closed = 3

abbrev pub close_under_sender : ℕ
close_under_sender = 4
