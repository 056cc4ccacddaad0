use Rattle.clap.specs.Words.{found_of}
use Rattle.sc_words.proofs.Given.{exact, found, given}
use Rattle.sc_words.proofs.order.text_in.Goals as goal

pub returns : goal.returns
returns c = record {
  given = given (found_of c.args.found.now) c.args.name.now c.get_str.result c.get_str.ensures;
  found = found (found_of c.args.found.now) c.args.name.now c.get_str.result c.get_str.ensures;
  exact = exact (found_of c.args.found.now) c.args.name.now c.get_str.result c.get_str.ensures;
}
