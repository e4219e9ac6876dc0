-- A message as it is written.
use Rattle.std.specs.Prelude.{ℕ, List, ◌++◌, codes, decimal, length}

-- `Content-Length`, and no other field
abbrev pub head_for : ℕ → List ℕ
head_for n = codes "Content-Length: " ++ decimal n ++ codes "\r\n\r\n"

abbrev pub message_of : List ℕ → List ℕ
message_of body = head_for (length body) ++ body
