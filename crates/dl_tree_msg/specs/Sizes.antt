-- The most bytes of what a request or an answer is made of.
use Rattle.std.specs.Prelude.{ℕ, ◌+◌, ◌*◌}

-- a path with its length of 16 bits
abbrev pub max_path : ℕ
max_path = 2 + 65535

-- bytes with their length of 32 bits
abbrev pub max_bytes : ℕ
max_bytes = 4 + 4294967295

-- a version with its flag
abbrev pub max_version : ℕ
max_version = 1 + 8

-- an operation behind its kind
abbrev pub max_op_rest : ℕ
max_op_rest = max_path + (max_bytes + max_version)

-- an operation
abbrev pub max_op : ℕ
max_op = 1 + max_op_rest

-- a request: the greatest one has operations behind its kind and their count
abbrev pub max_request : ℕ
max_request = 3 + 65535 * max_op

-- a name of a listing with its length
abbrev pub max_name : ℕ
max_name = 2 + 80

-- an answer to one operation behind its kind: the greatest one has names behind their count
abbrev pub max_answer_rest : ℕ
max_answer_rest = 4 + 4294967295 * max_name

-- an answer to one operation
abbrev pub max_answer : ℕ
max_answer = 1 + max_answer_rest

-- an answer to a request: the greatest one has answers behind its kind and their count
abbrev pub max_outcome : ℕ
max_outcome = 3 + 65535 * max_answer
