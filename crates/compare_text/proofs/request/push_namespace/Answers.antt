use Rattle.std.proofs.Common.{string_bytes}
use Rattle.compare_text.proofs.Quotes.{namespace_written}
use Rattle.compare_text.proofs.request.push_namespace.Goals as goal

pub returns : goal.returns
returns c =
    let empty = c.is_empty.ensures in
    let here = c.if-is_empty.false in
    namespace_written c.push_option.result (string_bytes c.push_option.new.line) (string_bytes c.args.line.now) c.args.namespace.now (cc) c.push_option.ensures
