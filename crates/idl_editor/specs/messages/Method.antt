-- The methods that a server knows.
use Rattle.std.specs.Prelude.{ℕ, List, codes, if◌then◌else◌}
use Rattle.std.specs.Str.{bytes_eq}
use Rattle.idl_editor.specs.declared.messages.method.Method.{Method}
use Rattle.idl_editor.specs.declared.messages.method.Method.TheVariants as method

unfoldable pub method_of : List ℕ → Method
method_of name =
    if bytes_eq name (codes "initialize") then method.Initialize
    else if bytes_eq name (codes "initialized") then method.Initialized
    else if bytes_eq name (codes "shutdown") then method.Shutdown
    else if bytes_eq name (codes "exit") then method.Exit
    else if bytes_eq name (codes "$/cancelRequest") then method.Cancel
    else if bytes_eq name (codes "textDocument/didOpen") then method.DidOpen
    else if bytes_eq name (codes "textDocument/didChange") then method.DidChange
    else if bytes_eq name (codes "textDocument/didClose") then method.DidClose
    else if bytes_eq name (codes "textDocument/didSave") then method.DidSave
    else if bytes_eq name (codes "workspace/didChangeWatchedFiles") then method.DidChangeWatchedFiles
    else if bytes_eq name (codes "textDocument/documentSymbol") then method.DocumentSymbol
    else if bytes_eq name (codes "textDocument/definition") then method.Definition
    else if bytes_eq name (codes "textDocument/hover") then method.Hover
    else if bytes_eq name (codes "textDocument/references") then method.References
    else if bytes_eq name (codes "textDocument/documentHighlight") then method.DocumentHighlight
    else method.Unknown
