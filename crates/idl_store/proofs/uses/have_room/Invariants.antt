use Rattle.std.proofs.Common.{◌<◌, ◌+◌, ◌^◌, All, length, take}
use Rattle.idl_store.specs.Numbers.{uses_of}
use Rattle.idl_store.proofs.uses.have_room.Given as goal

-- there is room for the uses of each so far
abbrev pub invariant-loop-number : goal.invariant-loop-number
invariant-loop-number g l =
    All (λ n. uses_of l.used n + length l.numbers < 2 ^ 64) (take l.number-index l.numbers)
