-- What the first bytes of a message tell of its head.
use Rattle.std.specs.Prelude.{◌≡◌, ℕ, ◌<◌, ◌≤◌, List, ◌++◌, nat_lt, length, take, Option, None, Some, if◌then◌else◌}
use Rattle.idl_editor.specs.frames.Message.{IsHead, longest_body, longest_head}
use Rattle.idl_editor.specs.declared.frames.head.Head.{Head}
use Rattle.idl_editor.specs.declared.frames.head.Head.TheVariants.{Whole, Begun, OverLimit, Missing}

-- no head stands at the front of these bytes
abbrev pub HasNoHead : List ℕ → Type 0
HasNoHead bytes = (head rest : List ℕ) (n : ℕ) → bytes ≡ head ++ rest → ¬ IsHead head n

-- none does, whatever follows
abbrev pub NeverHasHead : List ℕ → Type 0
NeverHasHead bytes = (more : List ℕ) → HasNoHead (bytes ++ more)

-- the first bytes are a head that announces n
abbrev pub IsHeadAt : List ℕ → ℕ → ℕ → Type 0
IsHeadAt bytes len n = (len ≤ length bytes) × IsHead (take len bytes) n

-- what is told is so
abbrev pub Tells : List ℕ → Head → Type 0
Tells bytes (Whole len n) = IsHeadAt bytes len n × (n ≤ longest_body)
Tells bytes Begun = HasNoHead bytes
Tells bytes OverLimit = (len : ℕ) × (n : ℕ) × IsHeadAt bytes len n × (longest_body < n)
Tells bytes Missing = NeverHasHead bytes

-- what a head of so many bytes is, by the number that it announces
abbrev pub head_by : ℕ → Option ℕ → Head
head_by len None = Missing
head_by len (Some n) =
    if nat_lt longest_head len then Missing
    else if nat_lt longest_body n then OverLimit
    else Whole len n

-- what so many bytes are that may begin a head
abbrev pub begun_by : ℕ → Head
begun_by len = if nat_lt len longest_head then Begun else Missing
