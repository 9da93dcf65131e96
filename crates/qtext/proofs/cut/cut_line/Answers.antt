use Rattle.std.proofs.Common.{map, sym, ◌∙◌, refl, arith}
use Rattle.qtext.proofs.CutLines.{pushed, sound_to_end, sound_to_last, words_to_end, words_of_last, line_at_feed, last_line, found_more}
use Rattle.qtext.proofs.cut.cut_line.Goals as goal

pub returns-then-end-text : goal.returns-then-end-text
returns-then-end-text c =
    let text = c.args.text.now in
    let found = map (λ w. w.now) c.loop-start.room.items in
    let end = c.word_at-end.ensures.end in
    let so = c.loop-start.invariant in
    record {
      parts = last_line text c.loop-start.start c.word_at-end.result.1 found so end c.if-end-text.true;
      whole = λ _. refl;
      shorter = tt;
      bytes = sym (sound_to_last text c.loop-start.start c.word_at-end.result.1 found so end c.if-end-text.true);
      words = λ _. rw c.in_ok-push.ensures.items
          (pushed (λ w. w.now) c.loop-start.room.items c.word_at-end.result.0 _ c.word_at-end.ensures.word
          ∙ sym (words_of_last text c.loop-start.start c.word_at-end.result.1 found so end c.if-end-text.true));
    }

pub loop-start-preserved : goal.loop-start-preserved
loop-start-preserved c =
    rw (c.in_ok-push.ensures.items, pushed (λ w. w.now) c.loop-start.room.items c.word_at-end.result.0 _ c.word_at-end.ensures.word)
    (found_more c.args.text.now c.loop-start.start c.word_at-end.result.1 (map (λ w. w.now) c.loop-start.room.items)
    c.loop-start.invariant c.word_at-end.ensures.end (omega arith) c.in-32.is)

pub returns-in-10-clause-parts : goal.returns-in-10-clause-parts
returns-in-10-clause-parts c =
    rw (c.split_at.ensures.front, c.split_at-in-10.ensures.back)
    (line_at_feed c.args.text.now c.loop-start.start c.word_at-end.result.1 (map (λ w. w.now) c.loop-start.room.items)
    c.loop-start.invariant c.word_at-end.ensures.end (omega arith) c.in-10.is)

pub returns-in-10-clause-bytes : goal.returns-in-10-clause-bytes
returns-in-10-clause-bytes c =
    rw c.split_at.ensures.front
    (sym (sound_to_end c.args.text.now c.loop-start.start c.word_at-end.result.1 (map (λ w. w.now) c.loop-start.room.items)
    c.loop-start.invariant c.word_at-end.ensures.end))

pub returns-in-10-clause-words : goal.returns-in-10-clause-words
returns-in-10-clause-words c = λ _.
    rw (c.split_at.ensures.front, c.in_ok-push.ensures.items)
    (pushed (λ w. w.now) c.loop-start.room.items c.word_at-end.result.0 _ c.word_at-end.ensures.word
    ∙ sym (words_to_end c.args.text.now c.loop-start.start c.word_at-end.result.1 (map (λ w. w.now) c.loop-start.room.items)
    c.loop-start.invariant c.word_at-end.ensures.end))

pub no_text-requires-clause-before : goal.no_text-requires-clause-before
no_text-requires-clause-before c =
    sound_to_end c.args.text.now c.loop-start.start c.word_at-end.result.1 (map (λ w. w.now) c.loop-start.room.items)
    c.loop-start.invariant c.word_at-end.ensures.end
