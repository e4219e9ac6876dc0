-- A line that is being read.
use Rattle.std.specs.Prelude.{◌≡◌, ◌++◌, ℕ, Bool, true, not, List, nat_eq, nat_lt, length, Option, None, Some}
use Rattle.std.specs.List.{list_all}
use Rattle.idl_session.specs.Lines.{line_within}
use Rattle.idl_session.specs.Streams.{Stream, onto}

-- what is kept of a line after further bytes
abbrev pub line_with : ℕ → Option (List ℕ) → List ℕ → Option (List ℕ)
line_with n None bytes = None
line_with n (Some line) bytes = line_within n (line ++ bytes)

-- a part of a line was taken: what is kept of it, and whether it has a byte
pub record IsReading (n : ℕ) (old new : Stream) (held : Option (List ℕ)) (any : Bool)
    : Type 0 where
  pub part : List ℕ
  pub one_line : list_all (λ b. not (nat_eq b 10)) part ≡ true
  pub taken : old ≡ onto part new
  pub keeps : held ≡ line_within n part
  pub has_byte : any ≡ nat_lt 0 (length part)
