use Rattle.std.proofs.Common.{ap, inl, inr, ◌∙◌}
use Rattle.csv.specs.Reading.{strip_bom}
use Rattle.sc_intake.specs.Reading.{unread}
use Rattle.sc_intake.proofs.quoted_records.reader_of.Goals as goal

pub returns-in-Ok-clause-reading : goal.returns-in-Ok-clause-reading
returns-in-Ok-clause-reading c =
    let same = c.in-Ok.ensures.same in
    let made = c.from_reader-reader.ensures in
    let built = c.flexible.ensures in
    let new = c.new.ensures in
    record {
      trim = ap (λ r. r.trim) same ∙ made.trim ∙ ap (λ b. b.trim) built ∙ new.trim;
      config = ap (λ r. r.config) same ∙ made.config ∙ ap (λ b. b.config) built ∙ new.config;
      flexible = ap (λ r. r.flexible) same ∙ made.flexible ∙ ap (λ b. b.flexible) built;
      ready = inr (inl (ap (λ r. r.has_headers) same ∙ made.has_headers ∙ ap (λ b. b.has_headers) built ∙ new.has_headers, c.in-Ok.ensures.set));
      text = strip_bom c.args.text.now;
      unread = ap unread same ∙ made.source;
    }
