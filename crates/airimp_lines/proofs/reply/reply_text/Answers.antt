use Rattle.std.proofs.Common.{decimal, take}
use Rattle.airline_base.specs.Days.{day_month}
use Rattle.airline_base.specs.Fields.{suffix_text}
use Rattle.airimp_lines.proofs.Replies.{day_front, joined, reply_spelled}
use Rattle.airimp_lines.proofs.reply.reply_text.Goals as goal

pub returns-clause-line : goal.returns-clause-line
returns-clause-line c =
    let s = c.args.segment.now in
    let d = c.bytes.ensures in
    let front = day_front d.day d.month _ c.bytes.result d.date.0.1.0 d.date.0.1.1 d.written in
    record {
      year = d.year;
      month = d.month;
      day = d.day;
      date = d.date;
      written = joined _ _ _ _ _ _ _ _ _ _ _ _ s.airline (decimal s.number) (suffix_text s.suffix) (day_month d.day d.month) s.board s.off c.args.code (decimal c.args.seats) c.characters.result (take 5 c.bytes.result) c.letters.result c.letters-2.result c.letters-3.result s.class c.letter.result
          c.new-text.ensures c.put.ensures.text c.characters.ensures.value c.put_number.ensures.text c.put_suffix.ensures.text c.put-2.ensures.text c.letter.ensures.value c.put-3.ensures.text front
          c.put-4.ensures.text c.put-5.ensures.text c.letters.ensures.value c.put-6.ensures.text c.letters-2.ensures.value c.put-7.ensures.text c.put-8.ensures.text c.letters-3.ensures.value c.put_number-2.ensures.text;
    }

pub returns-clause-spelled : goal.returns-clause-spelled
returns-clause-spelled c = λ some few today line h. reply_spelled today line c.args.segment.now c.args.code c.args.seats c.put_number-2.new.text.items c.letters-3.ensures.code some few (returns-clause-line c) h
