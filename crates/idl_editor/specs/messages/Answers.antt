-- What a server says.
use Rattle.std.specs.Prelude.{ℕ, ℤ, negsuc, List, codes}
use Rattle.serde_json.specs.Data.{Data, number, string, object, member, no_members}
use Rattle.serde_json.specs.Find.{of_integer}
use Rattle.idl_editor.specs.declared.messages.answer.ErrorCode.{ErrorCode}
use Rattle.idl_editor.specs.declared.messages.answer.ErrorCode.TheVariants as error

-- what a message begins with, and what follows: the keys stand in their order
abbrev pub version : Data
version = string (codes "2.0")

-- the answer to the request of this id
abbrev pub answer_json : Data → Data → Data
answer_json id result = object (member (codes "id") id
    (member (codes "jsonrpc") version
    (member (codes "result") result no_members)))

-- the numbers of errors: -32700, -32600, -32601, -32602, -32603 and -32002
abbrev pub number_of : ErrorCode → ℤ
number_of error.NoJson = negsuc 32699
number_of error.NoMessage = negsuc 32599
number_of error.UnknownMethod = negsuc 32600
number_of error.BadParams = negsuc 32601
number_of error.Internal = negsuc 32602
number_of error.NotInitialized = negsuc 32001

-- what is told of an error
abbrev pub text_of : ErrorCode → List ℕ
text_of error.NoJson = codes "no JSON"
text_of error.NoMessage = codes "no message"
text_of error.UnknownMethod = codes "unknown method"
text_of error.BadParams = codes "bad parameters"
text_of error.Internal = codes "no memory"
text_of error.NotInitialized = codes "not initialized"

abbrev pub code_json : ErrorCode → Data
code_json code = object (member (codes "code") (number (of_integer (number_of code)))
    (member (codes "message") (string (text_of code)) no_members))

-- the answer that tells an error
abbrev pub error_json : Data → ErrorCode → Data
error_json id code = object (member (codes "error") (code_json code)
    (member (codes "id") id
    (member (codes "jsonrpc") version no_members)))

-- a notice of the server
abbrev pub notice_json : List ℕ → Data → Data
notice_json method params = object (member (codes "jsonrpc") version
    (member (codes "method") (string method)
    (member (codes "params") params no_members)))
