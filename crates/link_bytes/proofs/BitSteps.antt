-- What one bit makes of what has come of a packet.
use Rattle.std.proofs.Common.{◌≡◌, ◌<◌, ◌≤◌, ◌+◌, ◌^◌, ◌⊎◌, inl, inr, ℕ, suc, Bool, true, false, List, [], ◌∷◌, ◌++◌, refl, sym, ap, ◌∙◌, subst, arith, Option, Some, None, Result, Ok, Err}
use Rattle.std.proofs.Common.{append_assoc, append-nil, length-append}
use Rattle.std.proofs.lemmas.Bool.{cases_lt}
use Rattle.std.proofs.lemmas.Nat.{pow_below}
use Rattle.std.proofs.lemmas.List.{take-append-le}
use Rattle.std.proofs.Math.Nat.{pow-le-pow_right}
use Rattle.link_bytes.specs.declared.packet.TheConstants.{DATA_BITS}
use Rattle.link_bytes.specs.declared.packet.Packet.{Packet}
use Rattle.link_bytes.specs.declared.packet.Packet.TheVariants.{Byte, Ack}
use Rattle.link_bytes.specs.declared.fault.LinkFault.{LinkFault}
use Rattle.link_bytes.specs.declared.fault.LinkFault.TheVariants.{Framing}
use Rattle.link_bytes.specs.declared.reader.PacketState.{PacketState}
use Rattle.link_bytes.specs.declared.reader.PacketState.TheVariants.{Idle, Started, Data, Failed}
use Rattle.link_bytes.specs.Line.{low_bits, data_bits, idle, sent, IsPacketFront}
use Rattle.link_bytes.specs.Reading.{PacketView, HasRead, IsPartial, IsFramingFault}
use Rattle.link_bytes.specs.Stages.{IsStage, Reads, reading_of}
use Rattle.link_bytes.proofs.DataBits.{data_bits-is, length-data_bits, take-data_bits, low_bits_set, low_bits_clear, bit_or_range}
use Rattle.link_bytes.proofs.Lines.{Answers, HasRead-more, goes_on, ends_sign}

-- what has come of a packet is the beginning of one
rest_data : (b count : ℕ) → count ≤ DATA_BITS → b < 2 ^ count → IsPacketFront (true ∷ true ∷ low_bits b count)
rest_data b count h l =
    let below : 2 ^ count ≤ 2 ^ DATA_BITS = pow-le-pow_right {n = 2} (omega arith) h in
    let len = length-data_bits b in
    record {
      packet = Byte b;
      is_packet = omega arith;
      count = suc (suc count);
      less = omega (arith, length-append (data_bits b) (false ∷ []));
      first = ap (λ bits. true ∷ true ∷ bits) (sym (take-append-le count (data_bits b) (false ∷ []) (omega arith) ∙ take-data_bits b count h));
    }

-- what has come at a stage is less than a packet
pub IsPartial-reading_of : (stage : PacketState) → IsStage stage → IsPartial (reading_of stage)
IsPartial-reading_of Idle h = record { packet = Ack; is_packet = tt; count = 0; less = omega arith; first = refl }
IsPartial-reading_of Started h = record { packet = Ack; is_packet = tt; count = 1; less = omega arith; first = refl }
IsPartial-reading_of (Data count value) h = rest_data value count h.0 h.1
IsPartial-reading_of Failed h = tt

-- what one bit makes of the stages before the data bits
pub idle_bit : Reads (reading_of Idle) false None (reading_of Idle)
idle_bit = ends_sign idle (false ∷ []) refl tt

pub start_bit : Reads (reading_of Idle) true None (reading_of Started)
start_bit = goes_on (true ∷ []) (IsPartial-reading_of Started tt)

pub one_bit : Reads (reading_of Started) true None (reading_of (Data 0 0))
one_bit = goes_on (true ∷ true ∷ []) (IsPartial-reading_of (Data 0 0) (omega arith, omega arith))

pub acknowledge : Reads (reading_of Started) false (Some Ack) (reading_of Idle)
acknowledge = ends_sign (sent Ack) (true ∷ false ∷ []) refl (tt, tt)

-- a data bit goes on with its packet
pub data_goes_on : (count value value' : ℕ) (bit : Bool) → count < DATA_BITS → value' < 2 ^ (count + 1) → low_bits value' (count + 1) ≡ low_bits value count
    ++ bit ∷ [] → Reads (reading_of (Data count value)) bit None (reading_of (Data (count + 1) value'))
data_goes_on count value value' bit h l e = rw (← e) (goes_on _ (rest_data value' (count + 1) (omega arith) l))

-- the value of all data bits is the packet's byte
module _ (count value : ℕ) (all : DATA_BITS ≤ count) (is : IsStage (Data count value)) where
  whole_count : count ≡ DATA_BITS
  whole_count = omega (arith, is.0)

  whole_byte : value < 2 ^ DATA_BITS
  whole_byte = subst (λ n. value < 2 ^ n) whole_count is.1

  whole_bits : (stop : Bool) → (true ∷ true ∷ low_bits value count) ++ stop ∷ [] ≡ true ∷ true ∷ data_bits value ++ stop ∷ []
  whole_bits stop = ap (λ bits. true ∷ true ∷ bits ++ stop ∷ []) (ap (low_bits value) whole_count ∙ sym (data_bits-is value))

  -- after them a low bit ends the packet
  pub data_ends : Reads (reading_of (Data count value)) false (Some (Byte value)) (reading_of Idle)
  data_ends = ends_sign (sent (Byte value)) _ (whole_bits false) (whole_byte, tt)

  -- and a high one is bad
  pub data_breaks : IsFramingFault (reading_of (Data count value)) true
  data_breaks = (value, whole_byte, whole_bits true)

-- each bit has an answer
some_answer : (stage : PacketState) (bit : Bool) → IsStage stage → (result : Result (Option Packet) LinkFault) × (next : PacketState) × IsStage next
    × Answers (reading_of stage) bit result (reading_of next)
some_answer Idle false h = (Ok None, Idle, tt, idle_bit)
some_answer Idle true h = (Ok None, Started, tt, start_bit)
some_answer Started false h = (Ok (Some Ack), Idle, tt, acknowledge)
some_answer Started true h = (Ok None, Data 0 0, (omega arith, omega arith), one_bit)
some_answer (Data count value) bit h = data_answer bit (cases_lt count DATA_BITS) where
  data_answer : (bit : Bool) → (count < DATA_BITS) ⊎ (DATA_BITS ≤ count) → (result : Result (Option Packet) LinkFault) × (next : PacketState) × IsStage next
      × Answers (reading_of (Data count value)) bit result (reading_of next)
  data_answer true (inl l) = let r = bit_or_range value count l h.1 in (
    Ok None,
    Data (count + 1) _,
    (omega arith, r),
    data_goes_on count value _ true l r (low_bits_set value count l),
  )
  data_answer false (inl l) = let wider : 2 ^ count < 2 ^ (count + 1) = pow_below count (count + 1) (omega arith) in
      let r : value < 2 ^ (count + 1) = omega (arith, h.1) in (
        Ok None,
        Data (count + 1) value,
        (omega arith, r),
        data_goes_on count value value false l r
            (low_bits_clear value count h.1),
      )
  data_answer true (inr l) = (Err Framing, Failed, tt, (refl, data_breaks count value l h, refl))
  data_answer false (inr l) = (Ok (Some (Byte value)), Idle, tt, data_ends count value l h)
some_answer Failed bit h = (Err Framing, Failed, tt, (refl, tt, refl))

-- bits that come after others have a reading
some_more : (bits more : List Bool) (packets : List Packet) (stage : PacketState) → IsStage stage → HasRead bits packets (reading_of stage)
    → (all : List Packet) × (reading : PacketView) × HasRead (bits ++ more) all reading
some_more bits [] packets stage h r = (packets, reading_of stage, subst (λ (xs : List Bool). HasRead xs packets (reading_of stage)) (sym (append-nil bits)) r)
some_more bits (bit ∷ more) packets stage h r =
    let (result, next, is, answers) = some_answer stage bit h in
    let all = some_more (bits ++ bit ∷ []) more _ next is (HasRead-more bits packets (reading_of stage) bit result (reading_of next) r answers) in
    (all.0, all.1, subst (λ (xs : List Bool). HasRead xs all.0 all.1) (append_assoc bits (bit ∷ []) more) all.2)

-- bits have a reading
pub some_reading : (bits : List Bool) → (packets : List Packet) × (reading : PacketView) × HasRead bits packets reading
some_reading bits = some_more [] bits [] Idle tt (goes_on [] (IsPartial-reading_of Idle tt))
