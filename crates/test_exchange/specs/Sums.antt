-- m 2, k 1, w 1, D 2, t 1.
--
-- p, key                      parameters, matrix and y
-- made_up, made_up_last       accepted runs that no prover made: message 5 is random; made_up_last hides leaf n−1
-- ..-judged                   their verdicts
-- ..-sums                     the sums of α, β and v on each axis
use Rattle.std.specs.Prelude.{◌≡◌, refl, [], ◌∷◌, map}
use Rattle.answers.specs.Number.{answer_number}
use Rattle.parameters.specs.declared.Parameters.{Parameters}
use Rattle.exchange.specs.Values.{Key}
use Rattle.test_standin.specs.StandIn.{hex, stand_in}
use Rattle.exchange.specs.Parties.{sums_of}
use Rattle.exchange.specs.Opening.{Exchange, announced, verdict}
use Rattle.test_standin.specs.Definitions.{definitions}

abbrev p : Parameters
p = record { m = 2; k = 1; w = 1; axes = 2; t = 1 }

abbrev key : Key
key = record { matrix = hex 1 0x47; y = hex 1 0xaa }

abbrev made_up : Exchange
made_up = record {
  prefix = hex 33 0xca463d08c8fae53d283d8070ac7218796cc3e7141e74a14b9b526ee738227b3200;
  h = hex 32 0x8d3d4cb122b5dd8f44918c1a9f9d7658182443bdaf88661703c51810711b2171;
  message2 = hex 8 0x9cf14660944acc69;
  message3 = hex 32 0x42cb4316aa4b8a11722e6013b7afad7cf5f20a911fdf3a596588c2b60ac1c6ba;
  leaf = 1;
  message5 = hex 79 0xebaa6292677ef5da110f85953ab42f5ec5073350fb673ab1e7e80a0722c9a937111b402f81284ada074f1667d7c216dd637fa2b8cbd03295aa20038bfebcfc5c9820b4ad60dc261baf1958223ab8df;
}

made_up-judged :
    answer_number (verdict stand_in p made_up key)
    ≡ 0
unfolding definitions
made_up-judged = refl

made_up-sums :
    map (λ j. sums_of p (announced stand_in p made_up key j)) (0 ∷ 1 ∷ [])
    ≡ hex 12 0x9f77cbcb1f2ae54f00000000 ∷ hex 12 0x9f77cbcb1f2ae54f00000000 ∷ []
unfolding definitions
made_up-sums = refl

abbrev made_up_last : Exchange
made_up_last = record {
  prefix = hex 33 0x469dde61c8752dc4251747ca607e0dd2a6b2ca97fcb5f2aba94cbeef00e97ab400;
  h = hex 32 0x9998f1d95c71dc33cd290683cf9a6351d6003d4c3262576b1414ecb1bde7f1b8;
  message2 = hex 8 0x01020304403b0312;
  message3 = hex 32 0xb491dc66be87c352f6ece2eb49adbbfd4294b1939b4c331182ca505c19d5f721;
  leaf = 3;
  message5 = hex 72 0xfa9d779a44fb7bb0da35cbabfda31669ac940a159f3323c44b91ea26102b1e0f88e26cbaea5dab055692e7b9b7d06d5b76790e71877324d924d5052a075f4e6e5fa0cf5df2c97fab;
}

made_up_last-judged :
    answer_number (verdict stand_in p made_up_last key)
    ≡ 0
unfolding definitions
made_up_last-judged = refl

made_up_last-sums :
    map (λ j. sums_of p (announced stand_in p made_up_last key j)) (0 ∷ 1 ∷ [])
    ≡ hex 12 0x1f9b292ced4d9dce00000000 ∷ hex 12 0x1f9b292ced4d9dce00000000 ∷ []
unfolding definitions
made_up_last-sums = refl
