use Rattle.std.proofs.Common.{Ok, Err, refl}
use Rattle.whiteread.proofs.reader.one_line.read_text.Goals as goal

pub returns-in-Ok : goal.returns-in-Ok
returns-in-Ok g c = record {
  before = c.new-words.result;
  after = c.read_whole.new.words;
  answer = Ok c.in-Ok.value;
  text = c.new-words.ensures.text;
  start = c.new-words.ensures.position;
  called = c.in-Ok.ensures;
  told = refl;
}

pub returns-in-Err : goal.returns-in-Err
returns-in-Err g c = record {
  before = c.new-words.result;
  after = c.read_whole.new.words;
  answer = Err c.in-Err.why;
  text = c.new-words.ensures.text;
  start = c.new-words.ensures.position;
  called = c.in-Err.ensures;
  told = (c.new.result, refl, rw (c.position.ensures.place, c.REQUEST_CHEAP_ERROR.ensures) at c.new.ensures);
}
