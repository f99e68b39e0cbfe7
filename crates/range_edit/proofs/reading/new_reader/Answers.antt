use Rattle.std.proofs.Common.{◌∙◌, inr}
use Rattle.range_edit.proofs.Given.{gives_none}
use Rattle.range_edit.proofs.reading.new_reader.Goals as goal

-- the builder has its settings, and nothing of the text is read
pub returns : goal.returns
returns c =
    let made = c.from_reader.ensures in
    let flexible = c.flexible.ensures in
    let headers = c.has_headers.ensures in
    gives_none c.args.bytes.now _ (rw (flexible, headers) at made.trim ∙ c.new.ensures.trim)
    (inr (inr (rw (flexible, headers) at made.has_headers, made.headers)))
    (rw (flexible, headers) at made.config ∙ c.new.ensures.config) made.source made.state
