-- What a read into a buffer comes to, beside the buffer.
use Rattle.std.specs.Prelude.{ℕ, List, take, Result, Ok, Err}
use Rattle.qplain.specs.declared.reply.Reply.{Reply}
use Rattle.qplain.specs.declared.reply.Reply.TheVariants.{Bytes as BytesReply, Refused as RefusedReply}
use Rattle.qsession.specs.declared.fault.Fault.{Fault}
use Rattle.qsession.specs.declared.read_reply.ReadReply.{ReadReply}
use Rattle.qsession.specs.declared.read_reply.ReadReply.TheVariants.{Bytes, Refused}

-- the reply whose bytes stand at the front of the buffer
abbrev pub read_in : List ℕ → ReadReply → Reply
read_in buffer (Bytes count) = BytesReply (take count buffer)
read_in buffer (Refused refusal) = RefusedReply refusal

-- how many bytes it tells of
abbrev pub count_in : ReadReply → ℕ
count_in (Bytes count) = count
count_in (Refused refusal) = 0

-- the answer with that reply
abbrev pub answer_with : List ℕ → Result ReadReply Fault → Result Reply Fault
answer_with buffer (Ok reply) = Ok (read_in buffer reply)
answer_with buffer (Err fault) = Err fault
