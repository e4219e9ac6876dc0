-- What a reader gives of a stream.
use Rattle.std.specs.Prelude.{◌≡◌, ◌≢◌, ℕ, ◌+◌, ◌*◌, ◌<◌, ◌≤◌, List, [], length, Option, IfSome}
use Rattle.idl_source.specs.devices.Device.{prepend}
use Rattle.idl_editor.specs.frames.Message.{IsHead, IsMessage, HasNoMessage, NeverHasMessage, longest_body}
use Rattle.idl_editor.specs.declared.frames.reader.Received.{Received}
use Rattle.idl_editor.specs.declared.frames.reader.Received.TheVariants.{Body, End, Unfinished, NoHead, OverLimit}

-- nothing is to come, as far as is known
abbrev pub IsOver : Option (List ℕ) → Type 0
IsOver stream = IfSome stream (λ bytes. bytes ≡ [])

-- the bytes of a message went, and this is its body
abbrev pub TakesMessage : List ℕ → Option (List ℕ) → Option (List ℕ) → Type 0
TakesMessage body old new =
    (message : List ℕ) × IsMessage message body × (old ≡ prepend message new)

-- something is to come, and no message is at its front
abbrev pub EndsWithin : Option (List ℕ) → Type 0
EndsWithin stream = IfSome stream (λ bytes. (bytes ≢ []) × HasNoMessage bytes)

-- bytes are to come with which no message begins, whatever follows
abbrev pub BeginsNoMessage : Option (List ℕ) → Type 0
BeginsNoMessage stream =
    (seen : List ℕ) × (left : Option (List ℕ)) × (stream ≡ prepend seen left)
    × NeverHasMessage seen

-- a head is to come that announces a body of more bytes than there may be
abbrev pub BeginsOverLimit : Option (List ℕ) → Type 0
BeginsOverLimit stream =
    (head : List ℕ) × (n : ℕ) × (left : Option (List ℕ)) × (stream ≡ prepend head left)
    × IsHead head n × (longest_body < n)

-- what was received of the bytes to come, and what is to come then
abbrev pub Receives : Received → Option (List ℕ) → Option (List ℕ) → Type 0
Receives (Body body) old new = TakesMessage body.items old new
Receives End old new = IsOver old × (new ≡ old)
Receives Unfinished old new = EndsWithin old × (new ≡ old)
Receives NoHead old new = BeginsNoMessage old × (new ≡ old)
Receives OverLimit old new = BeginsOverLimit old × (new ≡ old)

-- a bound on how often a byte may still come
abbrev pub fuel : ℕ → List ℕ → ℕ
fuel reads held = reads * 8193 + length held

-- a message was taken, so less is to come
abbrev pub IsNearer : Received → ℕ → ℕ → Type 0
IsNearer (Body body) old new = new < old
IsNearer End old new = new ≤ old
IsNearer Unfinished old new = new ≤ old
IsNearer NoHead old new = new ≤ old
IsNearer OverLimit old new = new ≤ old
