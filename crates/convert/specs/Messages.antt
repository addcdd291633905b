-- What the program says where it gives up.
use Rattle.std.specs.Prelude.{ℕ, List, ◌++◌, Some, None, Option, codes, string_bytes}
use Rattle.convert.specs.declared.failure.Failure.{Failure}
use Rattle.convert.specs.declared.failure.Failure.TheVariants.{Bid, Memory, Io}

-- the standard library words what it says of memory, and of input and output
abbrev pub message_of : Failure → Option (List ℕ)
message_of (Bid word) = Some (codes "'" ++ (string_bytes word ++ codes "' is no bid: write a whole number of yuan from -1000 to 10000"))
message_of (Memory error) = None
message_of (Io error) = None
